use Rattle.std.proofs.Common.{◌++◌, [], ◌∷◌, map, ap, ◌∙◌}
use Rattle.std.specs.Prelude.{string_bytes}
use Rattle.gup_read_notes.specs.Names.{place_of}
use Rattle.gup_read_notes.proofs.Places.{put_in}
use Rattle.gup_read_notes.proofs.table.Table.push.Goals as goal

pub returns : goal.returns
returns c =
    let name = c.args.name.now in
    ap (map string_bytes) c.in_ok-insert.ensures.keys
    ∙ put_in c.self.inside.names.keys c.in_ok-key.key name c.in_ok-key.ensures.ok (ap (λ names. place_of names name) c.self.view_is ∙ c.requires)
    ∙ ap (λ names. names ++ name ∷ []) c.self.view_is
