-- The words of frames in one list.
use Rattle.std.proofs.Common.{◌≡◌, ◌≢◌, ℕ, ◌+◌, ◌-◌, ◌*◌, ◌<◌, ◌≤◌, eqb, ltb, ◌&&◌, cond, List, length, take, drop, length-drop, get_or, set, get_or-set_same, get_or-set_other, ap, sym, ◌∙◌, ⊎_elim, arith}
use Rattle.std.proofs.Math.Path.{fun_ext}
use Rattle.std.proofs.lemmas.List.{get_or_past, get_or-take, get_or-drop, length-take-le}
use Rattle.std.proofs.lemmas.Bool.{cases_eq, cases_lt}
use Rattle.std.proofs.lemmas.Bool.Decides.{nat_tests}
use Rattle.gup_plain.specs.Put.{put, put2}
use Rattle.gup_frames.specs.Frames.{word_in}

-- the first n words of the frame are 0
abbrev pub front_zero : (frame n : ℕ) → (ℕ → ℕ → ℕ) → ℕ → ℕ → ℕ
front_zero frame n word f w = cond (eqb f frame && ltb w n) 0 (word f w)

-- one word more is written
pub front_more : (words old : List ℕ) (frame n : ℕ) → n < 512 → 512 * frame + n < length words → word_in words ≡ front_zero frame n (word_in old) → word_in (set words (512 * frame + n) 0) ≡ front_zero frame (n + 1) (word_in old)
front_more words old frame n within inside done = fun_ext (λ f. fun_ext (λ w. at f w (ap (λ h. h f w) done)))
  where
    at : (f w : ℕ) → word_in words f w ≡ front_zero frame n (word_in old) f w → word_in (set words (512 * frame + n) 0) f w ≡ front_zero frame (n + 1) (word_in old) f w
    at f w done =
        ⊎_elim
        (λ (here : 512 * f + w ≡ 512 * frame + n).
        let read : get_or (set words (512 * frame + n) 0) (512 * f + w) 0 ≡ 0 = rw here (get_or-set_same words (512 * frame + n) 0 0 inside) in
        grind (arith, nat_tests))
        (λ (away : 512 * f + w ≢ 512 * frame + n).
        let read : get_or (set words (512 * frame + n) 0) (512 * f + w) 0 ≡ get_or words (512 * f + w) 0 = get_or-set_other words (512 * frame + n) (512 * f + w) 0 0 away in
        grind (arith, nat_tests))
        (cases_eq (512 * f + w) (512 * frame + n))

-- of a frame that has 512 words
pub front_all : (frame : ℕ) (words : List ℕ) → front_zero frame 512 (word_in words) ≡ put frame (λ _. 0) (word_in words)
front_all frame words = fun_ext (λ f. fun_ext (λ w. at f w))
  where
    at : (f w : ℕ) → front_zero frame 512 (word_in words) f w ≡ put frame (λ _. 0) (word_in words) f w
    at f w = grind (arith, nat_tests)

-- the frame `to` has the words of the other
pub copied_words : (old new : List ℕ) (from to : ℕ) → ((k d : ℕ) → 512 * to ≤ k → k < 512 * to + (512 * from + 512 - 512 * from) → get_or new k d ≡ get_or old (512 * from + (k - 512 * to)) d) → ((k d : ℕ) → k < 512 * to → get_or new k d ≡ get_or old k d) → ((k d : ℕ) → 512 * to + (512 * from + 512 - 512 * from) ≤ k → get_or new k d ≡ get_or old k d) → word_in new ≡ put to (word_in old from) (word_in old)
copied_words old new from to same below above = fun_ext (λ f. fun_ext (λ w. at f w))
  where
    at : (f w : ℕ) → word_in new f w ≡ put to (word_in old from) (word_in old) f w
    at f w =
        ⊎_elim
        (λ (within : w < 512).
        ⊎_elim
        (λ (here : f ≡ to).
        let read : get_or new (512 * f + w) 0 ≡ get_or old (512 * from + w) 0 =
        same (512 * f + w) 0 (omega arith) (omega arith) ∙ ap (λ k. get_or old k 0) (omega arith) in
        grind (arith, nat_tests))
        (λ (ne : f ≢ to).
        let read : get_or new (512 * f + w) 0 ≡ get_or old (512 * f + w) 0 =
        ⊎_elim (λ (l : f < to). below (512 * f + w) 0 (omega arith)) (λ (g : to ≤ f). above (512 * f + w) 0 (omega arith)) (cases_lt f to) in
        grind (arith, nat_tests))
        (cases_eq f to))
        (λ (past : 512 ≤ w). grind (arith, nat_tests))
        (cases_lt w 512)

-- zeros behind the end change no word
pub longer_words : (old new : List ℕ) (n : ℕ) → length old ≤ n → length new ≡ n → ((k d : ℕ) → k < n → k < length old → get_or new k d ≡ get_or old k d) → ((k d : ℕ) → length old ≤ k → k < n → get_or new k d ≡ 0) → word_in new ≡ word_in old
longer_words old new n longer len same zeros = fun_ext (λ f. fun_ext (λ w. ap (λ x. cond (ltb w 512) x 0) (at (512 * f + w))))
  where
    at : (k : ℕ) → get_or new k 0 ≡ get_or old k 0
    at k =
        ⊎_elim
        (λ (before : k < length old). same k 0 (omega arith) before)
        (λ (behind : length old ≤ k).
        ⊎_elim
        (λ (within : k < n). zeros k 0 behind within ∙ sym (get_or_past old k 0 behind))
        (λ (past : n ≤ k). get_or_past new k 0 (omega arith) ∙ sym (get_or_past old k 0 behind))
        (cases_lt k n))
        (cases_lt k (length old))

-- past the end of the list a frame's words are 0
pub unwritten : (words : List ℕ) (frame : ℕ) → length words ≤ 512 * frame → word_in words ≡ put frame (λ _. 0) (word_in words)
unwritten words frame past = fun_ext (λ f. fun_ext (λ w. at f w))
  where
    at : (f w : ℕ) → word_in words f w ≡ put frame (λ _. 0) (word_in words) f w
    at f w =
        ⊎_elim
        (λ (here : f ≡ frame). let read : get_or words (512 * f + w) 0 ≡ 0 = get_or_past words (512 * f + w) 0 (omega arith) in grind (arith, nat_tests))
        (λ (ne : f ≢ frame). grind (arith, nat_tests))
        (cases_eq f frame)

-- one word is written
pub written_word : (words : List ℕ) (frame word v : ℕ) → word < 512 → 512 * frame + word < length words → word_in (set words (512 * frame + word) v) ≡ put2 frame word v (word_in words)
written_word words frame word v within inside = fun_ext (λ f. fun_ext (λ w. at f w))
  where
    at : (f w : ℕ) → word_in (set words (512 * frame + word) v) f w ≡ put2 frame word v (word_in words) f w
    at f w =
        ⊎_elim
        (λ (here : 512 * f + w ≡ 512 * frame + word).
        let read : get_or (set words (512 * frame + word) v) (512 * f + w) 0 ≡ v = rw here (get_or-set_same words (512 * frame + word) v 0 inside) in
        grind (arith, nat_tests))
        (λ (away : 512 * f + w ≢ 512 * frame + word).
        let read : get_or (set words (512 * frame + word) v) (512 * f + w) 0 ≡ get_or words (512 * f + w) 0 = get_or-set_other words (512 * frame + word) (512 * f + w) v 0 away in
        grind (arith, nat_tests))
        (cases_eq (512 * f + w) (512 * frame + word))

-- what the list has of a frame's words, and 0 behind it
pub words_there : (words : List ℕ) (frame first end : ℕ) → first ≤ end → end ≤ length words → end ≤ 512 * frame + 512 → (512 * frame ≤ length words → first ≡ 512 * frame) → (length words < 512 * frame → first ≡ end) → (512 * frame + 512 ≤ length words → end ≡ 512 * frame + 512) → (length words < 512 * frame + 512 → end ≡ length words) → (λ w. get_or (take (end - first) (drop first words)) w 0) ≡ word_in words frame
words_there words frame first end ordered inside within starts none whole part = fun_ext (λ w. at w)
  where
    rest : length (drop first words) ≡ length words - first
    rest = length-drop first words

    long : length (take (end - first) (drop first words)) ≡ end - first
    long = length-take-le (end - first) (drop first words) (omega (arith, rest))

    past : (w : ℕ) → end - first ≤ w → get_or (take (end - first) (drop first words)) w 0 ≡ 0
    past w behind = get_or_past (take (end - first) (drop first words)) w 0 (omega (arith, long))

    at : (w : ℕ) → get_or (take (end - first) (drop first words)) w 0 ≡ word_in words frame w
    at w =
        ⊎_elim
        (λ (there : w < end - first).
        let here : first ≡ 512 * frame = ⊎_elim (λ (short : length words < 512 * frame). let same = none short in absurd (omega arith)) (λ (long : 512 * frame ≤ length words). starts long) (cases_lt (length words) (512 * frame)) in
        let read : get_or (take (end - first) (drop first words)) w 0 ≡ get_or words (first + w) 0 =
        get_or-take (end - first) (drop first words) w 0 there ∙ get_or-drop first words w 0 in
        let at_word : get_or words (first + w) 0 ≡ get_or words (512 * frame + w) 0 = ap (λ k. get_or words (k + w) 0) here in
        grind (arith, nat_tests))
        (λ (behind : end - first ≤ w).
        let read = past w behind in
        ⊎_elim
        (λ (inside : w < 512).
        let reaches : length words ≤ 512 * frame + w = ⊎_elim (λ (short : length words < 512 * frame). omega arith) (λ (long : 512 * frame ≤ length words). let here = starts long in ⊎_elim (λ (cut : length words < 512 * frame + 512). let same = part cut in omega arith) (λ (all : 512 * frame + 512 ≤ length words). let same = whole all in absurd (omega arith)) (cases_lt (length words) (512 * frame + 512))) (cases_lt (length words) (512 * frame)) in
        let zero : get_or words (512 * frame + w) 0 ≡ 0 = get_or_past words (512 * frame + w) 0 reaches in
        grind (arith, nat_tests))
        (λ (outside : 512 ≤ w). grind (arith, nat_tests))
        (cases_lt w 512))
        (cases_lt w (end - first))
