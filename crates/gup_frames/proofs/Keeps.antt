-- What a `Frames` keeps of its lists stays.
use Rattle.std.proofs.Common.{◌≡◌, ◌≢◌, ℕ, ◌+◌, ◌-◌, ◌*◌, ◌<◌, ◌≤◌, eqb, ltb, Bool, true, false, not, cond, List, length, get_or, set, replicate, refl, ap, sym, ◌∙◌, ⊎_elim, arith, length-set, get_or-set_same, get_or-set_other}
use Rattle.std.proofs.Math.Path.{fun_ext}
use Rattle.std.proofs.lemmas.List.{get_or_default, get_or_past, get_or-replicate, length-replicate}
use Rattle.std.proofs.lemmas.Bool.{cases_eq, cases_lt}
use Rattle.std.proofs.lemmas.Bool.Decides.{nat_tests}
use Rattle.gup_plain.specs.Put.{put, lowest}
use Rattle.gup_bits.specs.Bits.{has, room_of}
use Rattle.gup_frames.specs.Frames.{FrameLists, FramesValue, frames_of, free_in, free_from, word_in, claimed, taken, copied, without_references}
use Rattle.gup_frames.specs.Kept.{IsKept}
use Rattle.gup_bits.proofs.Lowest.{lowest_same}
use Rattle.gup_frames.proofs.Free.{free_in-all, free_in-le, free_of-freed}

-- the lowest of the set is the lowest free one
pub lowest_free_is : (l : FrameLists) (room : ℕ) (free : List ℕ) (a b : ℕ) → IsKept l room free a b → (first n : ℕ) → first + n ≤ l.movable + l.normal → lowest first n (has free) ≡ free_from (frames_of l) first n
lowest_free_is l room free a b kept first n inside =
    let len : length l.counts ≡ l.movable + l.normal = kept.counts in
    lowest_same first n (has free) (λ f. eqb (get_or l.counts f 0) 0)
    (λ j above below. kept.set j ∙ ap (λ c. eqb c 0) (get_or_default l.counts j 1 0 (omega arith)))

-- other words are kept as well, if they are of no more frames
pub kept-words : (l : FrameLists) (room : ℕ) (free : List ℕ) (a b : ℕ) → IsKept l room free a b → (words : List ℕ) (room_now : ℕ) → room ≤ room_now → length words ≤ 512 * (l.movable + l.normal)
    → IsKept (record { movable = l.movable; normal = l.normal; counts = l.counts; marks = l.marks; words = words }) room_now free a b
kept-words l room free a b kept words room_now roomy few_words =
    record {
      few = kept.few;
      counts = kept.counts;
      marks = kept.marks;
      words = omega (arith, kept.words, roomy);
      few_words = few_words;
      set_room = kept.set_room;
      set = kept.set;
      movable = kept.movable;
      normal = kept.normal;
    }

-- ---- a frame is taken, or freed

module _ (l : FrameLists) (room : ℕ) (free : List ℕ) (a b f : ℕ) (kept : IsKept l room free a b) (inside : f < l.movable + l.normal) where
  count_here : (count d : ℕ) → get_or (set l.counts f count) f d ≡ count
  count_here count d =
      let len : length l.counts ≡ l.movable + l.normal = kept.counts in
      get_or-set_same l.counts f count d (omega arith)

  pub kept-changed : (new words : List ℕ) (room_now count : ℕ) (mark : Bool) (a' b' : ℕ) → room ≤ room_now → length words ≤ 512 * (l.movable + l.normal) → has new ≡ put f (eqb count 0) (has free) → room_of new ≡ room_of free → a' ≡ free_in (frames_of record { movable = l.movable; normal = l.normal; counts = set l.counts f count; marks = set l.marks f mark; words = words }) 0 l.movable → b' ≡ free_in (frames_of record { movable = l.movable; normal = l.normal; counts = set l.counts f count; marks = set l.marks f mark; words = words }) l.movable l.normal → IsKept (record { movable = l.movable; normal = l.normal; counts = set l.counts f count; marks = set l.marks f mark; words = words }) room_now new a' b'
  kept-changed new words room_now count mark a' b' roomy few_words bits bits_room movable normal = record {
    few = kept.few;
    counts = length-set l.counts f count ∙ kept.counts;
    marks = length-set l.marks f mark ∙ kept.marks;
    words = omega (arith, kept.words);
    few_words = few_words;
    set_room = omega (arith, kept.set_room, bits_room);
    set = λ j.
        ⊎_elim
        (λ (e : j ≡ f).
        let test : eqb j f ≡ true = grind (arith, nat_tests) in
        let read : get_or (set l.counts f count) j 1 ≡ count = rw e (count_here count 1) in
        ap (λ h. h j) bits ∙ rw (test, read) refl)
        (λ (ne : j ≢ f).
        let test : eqb j f ≡ false = grind (arith, nat_tests) in
        ap (λ h. h j) bits ∙ rw (get_or-set_other l.counts f j count 1 ne, test) (kept.set j))
        (cases_eq j f);
    movable = movable;
    normal = normal;
  }

  -- how many are free then, in each zone
  pub taken_from : (count : ℕ) (mark : Bool) (words : List ℕ) → 0 < count → get_or l.counts f 0 ≡ 0 → (a ≡ free_in (frames_of record { movable = l.movable; normal = l.normal; counts = set l.counts f count; marks = set l.marks f mark; words = words }) 0 l.movable + cond (ltb f l.movable) 1 0) × (b ≡ free_in (frames_of record { movable = l.movable; normal = l.normal; counts = set l.counts f count; marks = set l.marks f mark; words = words }) l.movable l.normal + cond (not (ltb f l.movable)) 1 0)
  taken_from count mark words some was =
      let s : FramesValue = frames_of record { movable = l.movable; normal = l.normal; counts = set l.counts f count; marks = set l.marks f mark; words = words } in
      let both = free_of-freed s (frames_of l) f l.movable l.normal inside (λ j ne. sym (get_or-set_other l.counts f j count 0 ne)) (rw (count_here count 0) some) was in
      (kept.movable ∙ both.0, kept.normal ∙ both.1)

  pub freed_to : (mark : Bool) (words : List ℕ) → 0 < get_or l.counts f 0 → (free_in (frames_of record { movable = l.movable; normal = l.normal; counts = set l.counts f 0; marks = set l.marks f mark; words = words }) 0 l.movable ≡ a + cond (ltb f l.movable) 1 0) × (free_in (frames_of record { movable = l.movable; normal = l.normal; counts = set l.counts f 0; marks = set l.marks f mark; words = words }) l.movable l.normal ≡ b + cond (not (ltb f l.movable)) 1 0)
  freed_to mark words some =
      let t : FramesValue = frames_of record { movable = l.movable; normal = l.normal; counts = set l.counts f 0; marks = set l.marks f mark; words = words } in
      let both = free_of-freed (frames_of l) t f l.movable l.normal inside (λ j ne. get_or-set_other l.counts f j 0 0 ne) some (count_here 0 0) in
      (both.0 ∙ ap (λ k. k + cond (ltb f l.movable) 1 0) (sym kept.movable), both.1 ∙ ap (λ k. k + cond (not (ltb f l.movable)) 1 0) (sym kept.normal))

  -- no more than the frames of the zone
  pub freed-within : 0 < get_or l.counts f 0 → (a + cond (ltb f l.movable) 1 0 ≤ l.movable) × (b + cond (not (ltb f l.movable)) 1 0 ≤ l.normal)
  freed-within some =
      let t : FramesValue = frames_of record { movable = l.movable; normal = l.normal; counts = set l.counts f 0; marks = set l.marks f false; words = l.words } in
      let both = freed_to false l.words some in
      let low : free_in t 0 l.movable ≤ l.movable = free_in-le t 0 l.movable in
      let high : free_in t l.movable l.normal ≤ l.normal = free_in-le t l.movable l.normal in
      (omega (arith, both.0), omega (arith, both.1))

-- ---- what the lists read as

pub same_frames : (m n : ℕ) (c c' : ℕ → ℕ) (k k' : ℕ → Bool) (w w' : ℕ → ℕ → ℕ) → c ≡ c' → k ≡ k' → w ≡ w' → (let made : (ℕ → ℕ) → (ℕ → Bool) → (ℕ → ℕ → ℕ) → FramesValue = λ c k w. record { movable = m; normal = n; count = c; mark = k; word = w } in made c k w ≡ made c' k' w')
same_frames m n c c' k k' w w' counts marks words =
    let made : (ℕ → ℕ) → (ℕ → Bool) → (ℕ → ℕ → ℕ) → FramesValue = λ c k w. record { movable = m; normal = n; count = c; mark = k; word = w } in
    ap (λ c. made c k w) counts ∙ ap (λ k. made c' k w) marks ∙ ap (λ w. made c' k' w) words

pub read_set : {X : Type 0} (xs : List X) (i : ℕ) (x d : X) → i < length xs → (λ j. get_or (set xs i x) j d) ≡ put i x (λ j. get_or xs j d)
read_set {X} xs i x d inside = fun_ext (λ j. at j)
  where
    at : (j : ℕ) → get_or (set xs i x) j d ≡ put i x (λ j. get_or xs j d) j
    at j =
        ⊎_elim
        (λ (e : j ≡ i). let test : eqb j i ≡ true = grind (arith, nat_tests) in rw test (rw e (get_or-set_same xs i x d inside)))
        (λ (ne : j ≢ i). let test : eqb j i ≡ false = grind (arith, nat_tests) in rw test (get_or-set_other xs i j x d ne))
        (cases_eq j i)

-- a frame gets the words of one that is another, as it is taken
pub taken_copied : (F : FramesValue) (words : ℕ → ℕ → ℕ) (from f : ℕ) → (from ≡ f → ⊥) → words ≡ put f (F.word from) F.word → claimed f (record F { word = words }) ≡ copied from f (taken f F)
taken_copied F words from f apart is = ap made (is ∙ fun_ext (λ g. at g))
  where
    made : (ℕ → ℕ → ℕ) → FramesValue
    made w = record F { count = put f 1 F.count; mark = put f false F.mark; word = w }

    at : (g : ℕ) → put f (F.word from) F.word g ≡ put f (put f (λ _. 0) F.word from) (put f (λ _. 0) F.word) g
    at g = grind (arith, nat_tests)

-- ---- all frames are free

-- the last references of a frame are taken back
pub last_gone : (l : FrameLists) (f by now : ℕ) → f < length l.counts → f < length l.marks → now ≡ get_or l.counts f 0 → now ≡ by → frames_of record { movable = l.movable; normal = l.normal; counts = set l.counts f (now - by); marks = set l.marks f false; words = l.words } ≡ without_references f by (frames_of l)
last_gone l f by now few fewer is last =
    let test : eqb (get_or l.counts f 0) by ≡ true = rw (← is) (grind (arith, nat_tests)) in
    same_frames l.movable l.normal _ _ _ _ (word_in l.words) (word_in l.words)
    (read_set l.counts f (now - by) 0 few ∙ ap (λ n. put f (n - by) (λ j. get_or l.counts j 0)) is)
    (read_set l.marks f false false fewer ∙ ap (λ b. put f (cond b false (get_or l.marks f false)) (λ j. get_or l.marks j false)) (sym test))
    refl

zeros : (n j : ℕ) → (let zero_list : List ℕ = replicate n 0 in get_or zero_list j 0 ≡ 0)
zeros n j =
    ⊎_elim
    (λ (h : j < n). get_or-replicate n j 0 0 h)
    (λ (h : n ≤ j). let len : length (replicate {A = ℕ} n 0) ≡ n = length-replicate {A = ℕ} n 0 in get_or_past (replicate n 0) j 0 (omega arith))
    (cases_lt j n)

pub kept-new : (m n room : ℕ) (counts words : List ℕ) (marks : List Bool) (free : List ℕ) → m + n ≤ 1024 → counts ≡ replicate (m + n) 0 → length marks ≡ m + n → 512 * (m + n) ≤ room → length words ≤ 512 * (m + n) → has free ≡ (λ k. ltb k (m + n)) → m + n ≤ room_of free → IsKept (record { movable = m; normal = n; counts = counts; marks = marks; words = words }) room free m n
kept-new m n room counts words marks free few is len_marks roomy few_words bits bits_room =
    let none : (j : ℕ) → get_or counts j 0 ≡ 0 = λ j. rw is (zeros (m + n) j) in
    let len : length counts ≡ m + n = rw is (length-replicate {A = ℕ} (m + n) 0) in
    let s : FramesValue = frames_of record { movable = m; normal = n; counts = counts; marks = marks; words = words } in record {
      few = few;
      counts = len;
      marks = len_marks;
      words = roomy;
      few_words = few_words;
      set_room = bits_room;
      set = λ j.
          ap (λ h. h j) bits
          ∙ (⊎_elim
          (λ (h : j < m + n). let read : get_or counts j 1 ≡ 0 = get_or_default counts j 1 0 (omega arith) ∙ none j in let test : ltb j (m + n) ≡ true = grind (arith, nat_tests) in rw (test, read) refl)
          (λ (h : m + n ≤ j). let read : get_or counts j 1 ≡ 1 = get_or_past counts j 1 (omega arith) in let test : ltb j (m + n) ≡ false = grind (arith, nat_tests) in rw (test, read) refl)
          (cases_lt j (m + n)));
      movable = sym (free_in-all s 0 m none);
      normal = sym (free_in-all s m n none);
    }
