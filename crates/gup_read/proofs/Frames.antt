-- The head and the `frames` line.
use Rattle.std.proofs.Common.{◌≡◌, ℕ, zero, suc, ◌+◌, ◌&&◌, false, leb, List, [], ◌∷◌, refl, sym, ap, ap₂, subst, ◌∙◌, Some, Result, Ok, Err, Decides, inl, inr, arith}
use Rattle.std.specs.Prelude.{codes, bytes_eq, decimal}
use Rattle.std.proofs.lemmas.Bool.{leb-true, le-leb}
use Rattle.std.proofs.lemmas.Bool.Decides.{Decides-and, Decides-like, not_from_Decides}
use Rattle.std.proofs.lemmas.Slice.Eq.{bytes_eq-Decides}
use Rattle.gup_read_words.specs.Text.{number_in}
use Rattle.gup_spec_grammar.specs.Spelling.{IsNumber}
use Rattle.gup_read_words.proofs.SpelledNumbers.{number_found, number_read}
use Rattle.gup_spec_grammar.specs.declared.fault.Reason.{Reason}
use Rattle.gup_spec_grammar.specs.declared.fault.Reason.TheVariants as reasons
use Rattle.gup_script.specs.Script.{FrameCounts}
use Rattle.gup_script.specs.Limits.{most_frames, most_tables}
use Rattle.gup_spec_grammar.specs.Said.{Word}
use Rattle.gup_spec_grammar.specs.Grammar.{AreFrames, AreFrameCounts, frames_words, head_words}
use Rattle.gup_spec_grammar.specs.Fault.{Unless, Fails}
use Rattle.gup_spec_grammar.specs.Outline.{frame_counts}
use Rattle.gup_read.specs.Reading.{counts_in, frames_in, is_head}
use Rattle.gup_read.proofs.Verdicts.{Judges, needed, ended, parted, refused, ok_not_err}
use Rattle.gup_read.proofs.Known.{number_finds}
use Rattle.gup_read.proofs.Declaring.{one_found}

-- ---- the head

none_decides : {P : Type 0} → (P → ⊥) → Decides false P
none_decides no_one = (λ e. absurd cc, λ p. absurd (no_one p))

pub head_decides : (words : List Word) → Decides (is_head words) (words ≡ head_words)
unfolding is_head
head_decides [] = none_decides λ e. cc
head_decides (word ∷ []) = none_decides λ e. cc
head_decides (word ∷ version ∷ []) =
    Decides-like (bytes_eq word (codes "gup") && bytes_eq version (codes "1"))
    (λ h. ap₂ (λ (w v : Word). w ∷ v ∷ []) h.0 h.1)
    (λ e. (ap first e, ap second e))
    (Decides-and _ _ (bytes_eq-Decides word (codes "gup")) (bytes_eq-Decides version (codes "1")))
  where
    first : List Word → Word
    first [] = []
    first (w ∷ ws) = w

    second : List Word → Word
    second (w ∷ v ∷ ws) = v
    second _ = []
head_decides (word ∷ version ∷ other ∷ more) = none_decides λ e. cc

-- ---- the `frames` line

-- three numbers, with their bounds
abbrev AreCounts : (m n t : Word) → FrameCounts → Type 0
AreCounts m n t k =
    (m ≡ decimal k.movable) × (n ≡ decimal k.normal) × (t ≡ decimal k.tables) × AreFrameCounts k.movable k.normal k.tables

fits_decides : (a b c : ℕ) → Decides (leb (a + b) most_frames && leb c most_tables) (AreFrameCounts a b c)
fits_decides a b c = Decides-and _ _ (leb-true _ _, le-leb _ _) (leb-true _ _, le-leb _ _)

abbrev AreAll : (m n t : Word) → FrameCounts → Type 0
AreAll m n t k =
    ((a : ℕ) × IsNumber m a)
    × (((b : ℕ) × IsNumber n b) × (((c : ℕ) × IsNumber t c) × (((k : FrameCounts) × AreCounts m n t k) × AreCounts m n t k)))

abbrev NotAll : (m n t : Word) → Reason → Type 0
NotAll m n t r =
    Unless reasons.Frames ((a : ℕ) × IsNumber m a) r
    (Unless reasons.Frames ((b : ℕ) × IsNumber n b) r
    (Unless reasons.Frames ((c : ℕ) × IsNumber t c) r (Fails reasons.Frames ((k : FrameCounts) × AreCounts m n t k) r)))

counts_tests : (m n t : Word) → Judges FrameCounts (counts_in m n t) (AreAll m n t) (NotAll m n t)
unfolding counts_in
counts_tests m n t =
    needed reasons.Frames (number_in m) _ (number_finds m) λ a is_a.
    needed reasons.Frames (number_in n) _ (number_finds n) λ b is_b.
    needed reasons.Frames (number_in t) _ (number_finds t) λ c is_c.
    ended reasons.Frames (leb (a + b) most_frames && leb c most_tables) (frame_counts (a, b, c)) (fits a b c is_a is_b is_c)
    (λ p. subst (AreCounts m n t) (same a b c is_a is_b is_c p.0 p.1) p.1)
    (λ x _ h. same a b c is_a is_b is_c x h)
  where
    same : (a b c : ℕ) → number_in m ≡ Some a → number_in n ≡ Some b → number_in t ≡ Some c → (k : FrameCounts) → AreCounts m n t k → k ≡ frame_counts (a, b, c)
    same a b c is_a is_b is_c k h =
        let fit = h.3 in
        let is_m = one_found (number_in m) k.movable a (number_read m k.movable (h.0, omega (arith, fit.0))) is_a in
        let is_n = one_found (number_in n) k.normal b (number_read n k.normal (h.1, omega (arith, fit.0))) is_b in
        let is_t = one_found (number_in t) k.tables c (number_read t k.tables (h.2, omega (arith, fit.1))) is_c in
        λ i. record { movable = is_m i; normal = is_n i; tables = is_t i }

    fits : (a b c : ℕ) → number_in m ≡ Some a → number_in n ≡ Some b → number_in t ≡ Some c → Decides (leb (a + b) most_frames && leb c most_tables) ((k : FrameCounts) × AreCounts m n t k)
    fits a b c is_a is_b is_c = (
      λ e. (frame_counts (a, b, c), ((number_found m a is_a).0, (number_found n b is_b).0, (number_found t c is_c).0, (fits_decides a b c).0 e)),
      λ h. (fits_decides a b c).1 (subst (λ (k : FrameCounts). AreFrameCounts k.movable k.normal k.tables) (same a b c is_a is_b is_c h.0 h.1) h.1.3),
    )

-- all tests of the line have one reason
pub lumped : {A : Type 0} {Good Fine : A → Type 0} {Bad : Reason → Type 0} (reason : Reason) (m : Result A Reason) → ((x : A) → Good x → Fine x) → ((x : A) → Fine x → Good x) → ((r : Reason) → Bad r → r ≡ reason) → Judges A m Good Bad → Judges A m Fine (λ r. Fails reason ((x : A) × Fine x) r)
lumped {A} {Good} {Fine} {Bad} reason m up down one k = record {
  found = λ x e. up x (k.found x e);
  read = λ x h. k.read x (down x h);
  fault_found = λ r e. (one r (k.fault_found r e), λ h. ok_not_err h.0 m r (k.read h.0 (down h.0 h.1)) e);
  fault_read = λ r h. way r h m refl;
} where
  way : (r : Reason) → Fails reason ((x : A) × Fine x) r → (n : Result A Reason) → m ≡ n → n ≡ Err r
  way r h (Ok x) e = absurd (h.1 (x, up x (k.found x e)))
  way r h (Err s) e = ap (λ (t : Reason). Err t) (one s (k.fault_found s e) ∙ sym h.0)

all_frames : (m n t : Word) (r : Reason) → NotAll m n t r → r ≡ reasons.Frames
all_frames m n t r (inl f) = f.0
all_frames m n t r (inr (a, inl f)) = f.0
all_frames m n t r (inr (a, inr (b, inl f))) = f.0
all_frames m n t r (inr (a, inr (b, inr (c, f)))) = f.0

field : ℕ → List Word → Word
field k [] = []
field zero (w ∷ ws) = w
field (suc k) (w ∷ ws) = field k ws

judged_counts : (m n t : Word) → Judges FrameCounts (counts_in m n t) (AreFrames (codes "frames" ∷ m ∷ n ∷ t ∷ [])) (λ r. Fails reasons.Frames ((k : FrameCounts) × AreFrames (codes "frames" ∷ m ∷ n ∷ t ∷ []) k) r)
unfolding field
judged_counts m n t =
    lumped reasons.Frames (counts_in m n t)
    (λ k h. let c : AreCounts m n t k = h.1.1.1.1 in (spelled k c, c.3))
    (λ k h.
    let fit = h.1 in
    let c : AreCounts m n t k = (ap (field 1) h.0, ap (field 2) h.0, ap (field 3) h.0, h.1) in
    ((k.movable, (c.0, omega (arith, fit.0))), ((k.normal, (c.1, omega (arith, fit.0))), ((k.tables, (c.2, omega (arith, fit.1))), ((k, c), c)))))
    (all_frames m n t)
    (counts_tests m n t)
  where
    spelled : (k : FrameCounts) → AreCounts m n t k → (codes "frames" ∷ m ∷ n ∷ t ∷ []) ≡ frames_words k.movable k.normal k.tables
    spelled k c = λ i. codes "frames" ∷ c.0 i ∷ c.1 i ∷ c.2 i ∷ []

abbrev pub JudgesFrames : List Word → Result FrameCounts Reason → Type 0
JudgesFrames words m = Judges FrameCounts m (AreFrames words) (λ r. Fails reasons.Frames ((k : FrameCounts) × AreFrames words k) r)

no_frames : (words : List Word) → ((k : FrameCounts) → words ≡ frames_words k.movable k.normal k.tables → ⊥) → JudgesFrames words (Err reasons.Frames)
no_frames words none = refused reasons.Frames (λ k h. none k h.0) (refl, λ h. none h.0 h.1.0) (λ r h. h.0)

pub judged_frames : (words : List Word) → JudgesFrames words (frames_in words)
unfolding frames_in field
judged_frames [] = no_frames [] λ k e. cc
judged_frames (a ∷ []) = no_frames (a ∷ []) λ k e. cc
judged_frames (a ∷ b ∷ []) = no_frames (a ∷ b ∷ []) λ k e. cc
judged_frames (a ∷ b ∷ c ∷ []) = no_frames (a ∷ b ∷ c ∷ []) λ k e. cc
judged_frames (a ∷ b ∷ c ∷ d ∷ []) =
    parted (bytes_eq a (codes "frames")) _ _
    (λ e. subst (λ (w : Word). JudgesFrames (w ∷ b ∷ c ∷ d ∷ []) (counts_in b c d)) (sym ((bytes_eq-Decides a (codes "frames")).0 e)) (judged_counts b c d))
    (λ e. no_frames (a ∷ b ∷ c ∷ d ∷ []) λ k same. not_from_Decides (bytes_eq a (codes "frames")) (bytes_eq-Decides a (codes "frames")) e (ap (field 0) same))
judged_frames (a ∷ b ∷ c ∷ d ∷ x ∷ more) = no_frames (a ∷ b ∷ c ∷ d ∷ x ∷ more) λ k e. cc
