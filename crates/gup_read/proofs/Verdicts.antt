-- What a chain of tests answers: each answer with what holds of it, both ways.
use Rattle.std.proofs.Common.{◌≡◌, Bool, true, false, cond, inl, inr, Option, Some, None, Result, Ok, Err, refl, sym, ap, subst, ◌∙◌, Decides}
use Rattle.gup_spec_grammar.specs.declared.fault.Reason.{Reason}
use Rattle.gup_spec_grammar.specs.Fault.{Unless, Fails}
use Rattle.gup_read.specs.Reading.{◌>>=◌, check, need}

-- The chain answers `Ok x` just where x is good, and `Err r` just where r is bad.
pub record Judges (A : Type 0) (m : Result A Reason) (Good : A → Type 0) (Bad : Reason → Type 0) : Type 0 where
  pub found : (x : A) → m ≡ Ok x → Good x
  pub read : (x : A) → Good x → m ≡ Ok x
  pub fault_found : (r : Reason) → m ≡ Err r → Bad r
  pub fault_read : (r : Reason) → Bad r → m ≡ Err r

-- The option holds a just where Q a.
abbrev pub Finds : {A : Type 0} → Option A → (A → Type 0) → Type 0
Finds {A} o Q = ((a : A) → o ≡ Some a → Q a) × ((a : A) → Q a → o ≡ Some a)

abbrev pub given : {A : Type 0} → A → Option A
given a = Some a

abbrev pub good : {A : Type 0} → A → Result A Reason
good a = Ok a

abbrev pub bad : {A : Type 0} → Reason → Result A Reason
bad r = Err r

pub same_given : {A : Type 0} (a b : A) → given a ≡ given b → a ≡ b
same_given a b e = cc

pub same_good : {A : Type 0} (a b : A) → good a ≡ good b → a ≡ b
same_good a b e = cc

pub same_bad : {A : Type 0} (a b : Reason) → bad {A = A} a ≡ bad {A = A} b → a ≡ b
same_bad a b e = cc

pub not_bad : {A : Type 0} (a : A) (r : Reason) → good a ≡ bad r → ⊥
not_bad a r e = cc

module _ {A : Type 0} {P : Type 0} {Good : A → Type 0} {Bad : Reason → Type 0} where
  -- a test, and what follows it
  pub checked : (reason : Reason) (b : Bool) (m : Result A Reason) → Decides b P → (P → Judges A m Good Bad) → Judges A (check reason b >>= λ _. m) (λ x. P × Good x) (λ r. Unless reason P r (Bad r))
  checked reason true m d j =
      let p : P = d.0 refl in
      let k = j p in
      record {
        found = λ x e. (p, k.found x e);
        read = λ x h. k.read x h.1;
        fault_found = λ r e. inr (p, k.fault_found r e);
        fault_read = λ r h. elim h [ inl f ↦ absurd (f.1 p) | inr g ↦ k.fault_read r g.1 ];
      }
  checked reason false m d j = record {
    found = λ x e. absurd cc;
    read = λ x h. let yes_is : false ≡ true = d.1 h.0 in absurd cc;
    fault_found = λ r e. inl (sym (same_bad {A = A} reason r e), λ p. let yes_is : false ≡ true = d.1 p in absurd cc);
    fault_read = λ r h. elim h [ inl f ↦ ap (λ s. Err s) (sym f.0) | inr g ↦ let yes_is : false ≡ true = d.1 g.0 in absurd cc ];
  }

module _ {A : Type 0} {Good : A → Type 0} {Bad : Reason → Type 0} where
  -- no test
  pub skipped : (reason : Reason) (m : Result A Reason) → Judges A m Good Bad → Judges A m (λ x. Unit {0} × Good x) (λ r. Unless reason (Unit {0}) r (Bad r))
  skipped reason m k = record {
    found = λ x e. (tt, k.found x e);
    read = λ x h. k.read x h.1;
    fault_found = λ r e. inr (tt, k.fault_found r e);
    fault_read = λ r h. elim h [ inl f ↦ absurd (f.1 tt) | inr g ↦ k.fault_read r g.1 ];
  }

module _ {A B : Type 0} {Q : B → Type 0} {Good : A → Type 0} {Bad : Reason → Type 0} where
  -- something that is needed, and what follows from it
  pub needed : (reason : Reason) (o : Option B) (f : B → Result A Reason) → Finds o Q → ((b : B) → o ≡ Some b → Judges A (f b) Good Bad) → Judges A (need reason o >>= f) (λ x. ((b : B) × Q b) × Good x) (λ r. Unless reason ((b : B) × Q b) r (Bad r))
  needed reason (Some b) f d j =
      let q : Q b = d.0 b refl in
      let k = j b refl in
      record {
        found = λ x e. ((b, q), k.found x e);
        read = λ x h. k.read x h.1;
        fault_found = λ r e. inr ((b, q), k.fault_found r e);
        fault_read = λ r h. elim h [ inl u ↦ absurd (u.1 (b, q)) | inr g ↦ k.fault_read r g.1 ];
      }
  needed reason None f d j = record {
    found = λ x e. absurd cc;
    read = λ x h. let is : None ≡ given h.0.0 = d.1 h.0.0 h.0.1 in absurd cc;
    fault_found = λ r e. inl (sym (same_bad {A = A} reason r e), λ q. let is : None ≡ given q.0 = d.1 q.0 q.1 in absurd cc);
    fault_read = λ r h. elim h [ inl u ↦ ap (λ s. Err s) (sym u.0) | inr g ↦ let is : None ≡ given g.0.0 = d.1 g.0.0 g.0.1 in absurd cc ];
  }

module _ {A : Type 0} {P : Type 0} {Good : A → Type 0} where
  -- the last test, and what is good at the end
  pub ended : (reason : Reason) (b : Bool) (a : A) → Decides b P → (P → Good a) → ((x : A) → P → Good x → x ≡ a) → Judges A (check reason b >>= λ _. Ok a) (λ x. P × Good x) (λ r. Fails reason P r)
  ended reason true a d made one =
      let p : P = d.0 refl in
      record {
        found = λ x e. (p, subst Good (same_good a x e) (made p));
        read = λ x h. ap (λ y. Ok y) (sym (one x h.0 h.1));
        fault_found = λ r e. absurd (not_bad a r e);
        fault_read = λ r h. absurd (h.1 p);
      }
  ended reason false a d made one = record {
    found = λ x e. absurd cc;
    read = λ x h. let yes_is : false ≡ true = d.1 h.0 in absurd cc;
    fault_found = λ r e. (sym (same_bad {A = A} reason r e), λ p. let yes_is : false ≡ true = d.1 p in absurd cc);
    fault_read = λ r h. ap (λ s. Err s) (sym h.0);
  }

module _ {A : Type 0} {Good : A → Type 0} where
  -- no last test
  pub done : (reason : Reason) (a : A) → Good a → ((x : A) → Good x → x ≡ a) → Judges A (Ok a) (λ x. Unit {0} × Good x) (λ r. Fails reason (Unit {0}) r)
  done reason a made one = record {
    found = λ x e. (tt, subst Good (same_good a x e) made);
    read = λ x h. ap (λ y. Ok y) (sym (one x h.1));
    fault_found = λ r e. absurd (not_bad a r e);
    fault_read = λ r h. absurd (h.1 tt);
  }

module _ {A : Type 0} {P Q R : Type 0} {Good : A → Type 0} {Bad : Reason → Type 0} where
  -- two tests with one reason
  pub merged : (reason : Reason) (m : Result A Reason) → (P → Q → R) → (R → P) → (R → Q) → Judges A m (λ x. P × (Q × Good x)) (λ r. Unless reason P r (Unless reason Q r (Bad r))) → Judges A m (λ x. R × Good x) (λ r. Unless reason R r (Bad r))
  merged reason (Ok a) join left right k = record {
    found = λ x e. let h = k.found x e in (join h.0 h.1.0, h.1.1);
    read = λ x h. k.read x (left h.0, (right h.0, h.1));
    fault_found = λ r e. absurd (not_bad a r e);
    fault_read = λ r h. elim h [ inl f ↦ let g = k.found a refl in absurd (f.1 (join g.0 g.1.0)) | inr g ↦ k.fault_read r (inr (left g.0, inr (right g.0, g.1))) ];
  }
  merged reason (Err s) join left right k = record {
    found = λ x e. absurd (not_bad x s (sym e));
    read = λ x h. k.read x (left h.0, (right h.0, h.1));
    fault_found = λ r e. split r (k.fault_found r e);
    fault_read = λ r h. elim h [ inl f ↦ ap (λ (t : Reason). Err t) (same s r (split s (k.fault_found s refl)) f) | inr g ↦ k.fault_read r (inr (left g.0, inr (right g.0, g.1))) ];
  } where
    split : (r : Reason) → Unless reason P r (Unless reason Q r (Bad r)) → Unless reason R r (Bad r)
    split r (inl f) = inl (f.0, λ h. f.1 (left h))
    split r (inr (p, inl g)) = inl (g.0, λ h. g.1 (right h))
    split r (inr (p, inr (q, rest))) = inr (join p q, rest)

    same : (t r : Reason) → Unless reason R t (Bad t) → Fails reason R r → t ≡ r
    same t r (inl f) g = f.0 ∙ sym g.0
    same t r (inr f) g = absurd (g.1 f.0)

module _ {A : Type 0} {Good Fine : A → Type 0} {Bad Poor : Reason → Type 0} where
  -- the same, said otherwise
  pub adjusted : (m : Result A Reason) → ((x : A) → Good x → Fine x) → ((x : A) → Fine x → Good x) → ((r : Reason) → Bad r → Poor r) → ((r : Reason) → Poor r → Bad r) → Judges A m Good Bad → Judges A m Fine Poor
  adjusted m up down worse better k = record {
    found = λ x e. up x (k.found x e);
    read = λ x h. k.read x (down x h);
    fault_found = λ r e. worse r (k.fault_found r e);
    fault_read = λ r h. k.fault_read r (better r h);
  }

module _ {A : Type 0} {Good : A → Type 0} {Bad : Reason → Type 0} where
  -- one way or the other
  pub parted : (b : Bool) (m n : Result A Reason) → (b ≡ true → Judges A m Good Bad) → (b ≡ false → Judges A n Good Bad) → Judges A (cond b m n) Good Bad
  parted true m n j k = j refl
  parted false m n j k = k refl

  -- an answer at once
  pub refused : (reason : Reason) → ((x : A) → Good x → ⊥) → Bad reason → ((r : Reason) → Bad r → r ≡ reason) → Judges A (Err reason) Good Bad
  refused reason none is one = record {
    found = λ x e. absurd (not_bad x reason (sym e));
    read = λ x h. absurd (none x h);
    fault_found = λ r e. subst Bad (same_bad {A = A} reason r e) is;
    fault_read = λ r h. ap (λ s. Err s) (sym (one r h));
  }

pub ok_not_err : {A : Type 0} (a : A) (b : Result A Reason) (r : Reason) → b ≡ Ok a → b ≡ Err r → ⊥
ok_not_err a b r e f = not_bad a r (sym e ∙ f)
