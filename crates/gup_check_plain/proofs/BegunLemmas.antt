-- How a script's processes begin, one after another.
use Rattle.std.proofs.Common.{◌≡◌, ℕ, ◌+◌, ◌≤◌, ◌==◌, Bool, true, false, length, refl, sym, ◌∙◌, ap, arith}
use Rattle.std.specs.Prelude.{◌&&◌, nat_lt, if◌then◌else◌}
use Rattle.std.proofs.Math.Path.{fun_ext}
use Rattle.std.proofs.lemmas.Bool.Decides.{nat_tests}
use Rattle.std.proofs.lemmas.Option.{slice_get_past}
use Rattle.gup_plain.specs.Put.{put}
use Rattle.gup_plain.specs.State.{PlainState, Birth, born, unborn, plain_start}
use Rattle.gup_script.specs.Script.{ScriptValue}
use Rattle.gup_spec_journal.specs.Place.{starts_born, is_born}
use Rattle.gup_check_plain.specs.Begun.{born_below}

same_start : (f g : ℕ → Bool) → ((q : ℕ) → f q ≡ g q) → plain_start f ≡ plain_start g
same_start f g same = ap plain_start (fun_ext same)

undeclared : (script : ScriptValue) (q : ℕ) → length script.processes ≤ q → starts_born script q ≡ false
undeclared script q past = ap is_born (slice_get_past script.processes q past)

begun_at : (script : ScriptValue) (q : ℕ) (b : Bool) → nat_lt q (length script.processes) ≡ b → (b && starts_born script q) ≡ starts_born script q
begun_at script q true is = refl
begun_at script q false is = sym (undeclared script q (grind (arith, nat_tests)))

-- at last all have
pub all_begun : (script : ScriptValue) (s : PlainState) (n : ℕ) → n ≡ length script.processes → s ≡ plain_start (born_below script n) → s ≡ plain_start (starts_born script)
all_begun script s n is begun =
    begun ∙ ap (λ k. plain_start (born_below script k)) is ∙ same_start (born_below script (length script.processes)) (starts_born script) (λ q. begun_at script q _ refl)

-- the next has yet to begin
pub not_begun : (script : ScriptValue) (s : PlainState) (p : ℕ) → s ≡ plain_start (born_below script p) → s.birth p ≡ unborn
not_begun script s p begun = ap (λ (t : PlainState). t.birth p) begun ∙ unborn_here (nat_lt p p) (starts_born script p) (grind (arith, nat_tests))
  where
    unborn_here : (less so : Bool) → less ≡ false → (if less && so then born else unborn) ≡ unborn
    unborn_here less so no_less = rw no_less refl

equal : (q p : ℕ) → (q == p) ≡ true → q ≡ p
equal q p same = grind (arith, nat_tests)

same_below : (q p : ℕ) → (q == p) ≡ false → nat_lt q p ≡ nat_lt q (p + 1)
same_below q p other = grind (arith, nat_tests)

-- the next is born
pub is_born_now : (script : ScriptValue) (s t : PlainState) (p : ℕ) → starts_born script p ≡ true → s ≡ plain_start (born_below script p) → t ≡ record s { birth = put p born s.birth } → t ≡ plain_start (born_below script (p + 1))
is_born_now script s t p is begun changed =
    changed
    ∙ ap (λ (x : PlainState). record x { birth = put p born x.birth }) begun
    ∙ ap (λ (birth : ℕ → Birth). record (plain_start (born_below script p)) { birth = birth })
    (fun_ext (λ q. one_more q (starts_born script q) (q == p) refl (λ same. ap (starts_born script) (equal q p same) ∙ is)))
  where
    one_more : (q : ℕ) (so same : Bool) → (q == p) ≡ same → (same ≡ true → so ≡ true) → (if same then born else (if nat_lt q p && so then born else unborn)) ≡ (if nat_lt q (p + 1) && so then born else unborn)
    one_more q so true is_same here =
        let less : nat_lt q (p + 1) ≡ true = grind (arith, nat_tests) in
        let is_so : so ≡ true = here refl in
        rw (less, is_so) refl
    one_more q so false is_same here =
        ap (λ (b : Bool). if b && so then born else unborn) (same_below q p is_same)
