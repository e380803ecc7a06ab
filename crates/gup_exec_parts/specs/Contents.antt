-- The contents of objects: a map from objects to their words. An object that the map lacks has zeros.
use Rattle.std.specs.Prelude.{ℕ}
use Rattle.gup_exec_parts.specs.declared.contents.Contents.{Contents}
use Rattle.gup_exec_parts.specs.Tables.{at_key}
use Rattle.gup_exec_parts.specs.Words.{word_of}

-- objects and words
abbrev pub content_of : Contents → ℕ → ℕ → ℕ
content_of c = at_key word_of (λ _. 0) c.words
