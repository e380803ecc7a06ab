-- Page tables that are looked through one after another, made free, or let go.
use Rattle.std.proofs.Common.{◌≡◌, ℕ, zero, suc, ◌+◌, ◌<◌, ◌==◌, ◌||◌, nat_lt, if◌then◌else◌, Bool, true, false, List, [], ◌∷◌, length, get_or, take, refl, ap, sym, ◌∙◌, arith}
use Rattle.std.proofs.Math.Numerals.{add-one}
use Rattle.std.proofs.Math.Path.{fun_ext}
use Rattle.std.proofs.lemmas.Bool.Decides.{nat_tests}
use Rattle.gup_plain.specs.Put.{put}
use Rattle.gup_spec_tables.specs.Tables.{is_among}

-- one more number is below the next one
pub one_more_below : (k : ℕ) → put k true (λ table. nat_lt table k) ≡ (λ table. nat_lt table (k + 1))
one_more_below k = fun_ext (λ table. grind (arith, nat_tests))

pub none_below : (f : ℕ → Bool) → f ≡ (λ _. false) → f ≡ (λ table. nat_lt table 0)
none_below f none = none ∙ fun_ext (λ table. grind (arith, nat_tests))

nothing_more : (b : Bool) → b ≡ (b || false)
nothing_more true = refl
nothing_more false = refl

pub among_none : (f : ℕ → Bool) → f ≡ (λ table. f table || is_among [] table)
among_none f = fun_ext (λ table. nothing_more (f table))

put_among : (c b d : Bool) → (if c then true else (b || d)) ≡ (b || (d || c))
put_among true true d = refl
put_among true false true = refl
put_among true false false = refl
put_among false true d = refl
put_among false false true = refl
put_among false false false = refl

last_first : (a b c : Bool) → (a || (b || c)) ≡ ((a || b) || c)
last_first true b c = refl
last_first false b c = refl

among_suc : (tables : List ℕ) (k d n : ℕ) → k < length tables → is_among (take (suc k) tables) n ≡ (is_among (take k tables) n || (n == get_or tables k d))
among_suc [] k d n within = absurd (omega arith)
among_suc (t ∷ tables) zero d n within = sym (nothing_more (n == t))
among_suc (t ∷ tables) (suc k) d n within = ap (λ b. (n == t) || b) (among_suc tables k d n (omega (arith, within))) ∙ last_first (n == t) (is_among (take k tables) n) (n == get_or tables k d)

-- one more table of the list is let go
pub one_more_among : (f : ℕ → Bool) (tables : List ℕ) (k d : ℕ) → k < length tables → put (get_or tables k d) true (λ n. f n || is_among (take k tables) n) ≡ (λ n. f n || is_among (take (k + 1) tables) n)
one_more_among f tables k d within =
    fun_ext
    (λ n.
    put_among (n == get_or tables k d) (f n) (is_among (take k tables) n)
    ∙ ap (λ b. f n || b) (sym (among_suc tables k d n within))
    ∙ ap (λ (m : ℕ). f n || is_among (take m tables) n) (sym (add-one k)))
