-- The parts of a machine that has taken no turn show the start.
use Rattle.std.proofs.Common.{◌≡◌, ℕ, Bool, true, false, ◌<◌, if◌then◌else◌, List, [], ◌∷◌, length, slice_get, Option, Some, None, All, refl, sym, ap, ◌∙◌, subst, arith}
use Rattle.std.proofs.lemmas.Option.{slice_get_within}
use Rattle.gup_plain.specs.State.{born, unborn}
use Rattle.gup_script.specs.Script.{ScriptValue}
use Rattle.gup_spec_journal.specs.Place.{starts_born, doer}
use Rattle.arrayvec.specs.ArrayVec.{ArrayVec}
use Rattle.gup_device.specs.Store.{StoreValue}
use Rattle.gup_spec_events.specs.State.{CoreState}
use Rattle.gup_frames.specs.Frames.{FramesValue, frames_of, no_references}
use Rattle.gup_handles.specs.Handles.{HandlesValue, handles_of, unmade}
use Rattle.gup_space.specs.Space.{SpaceValue, SpaceParts, space_of, no_space}
use Rattle.gup_space.specs.Shows.{ShowsFrames, ShowsSpace}
use Rattle.gup_spec_turns.specs.Run.{run_start}
use Rattle.gup_law_turns.proofs.ScriptLemmas.{all_at}
use Rattle.gup_handles.specs.Shows.{ShowsHandles}
use Rattle.gup_op_pins.specs.Held.{ShowsStore, slots_in as kept_slots}
use Rattle.gup_op_waits.specs.declared.births.Birth.{Birth}
use Rattle.gup_op_waits.specs.declared.births.Birth.TheVariants.{Unborn, Born}
use Rattle.gup_op_waits.specs.declared.parts.Parts.{Parts}
use Rattle.gup_op_waits.specs.Parts.{IsBirth, ShowsParts, AreParts}
use Rattle.gup_op_waits.specs.Stores.{IsEmptyStore}

first_birth : (b : Bool) (birth : Birth) → birth ≡ (if b then Born else Unborn) → IsBirth birth (if b then born else unborn)
first_birth true birth is = subst (λ (x : Birth). IsBirth x born) (sym is) refl
first_birth false birth is = subst (λ (x : Birth). IsBirth x unborn) (sym is) refl

abbrev pub AreFirst : ScriptValue → List Birth → Type 0
AreFirst script births = (p : ℕ) → p < length script.processes → slice_get births p ≡ Some (if starts_born script p then Born else Unborn)

birth_found : (script : ScriptValue) (births : List Birth) (p : ℕ) (birth : Birth) → length births ≡ length script.processes → AreFirst script births → slice_get births p ≡ Some birth → birth ≡ (if starts_born script p then Born else Unborn)
birth_found script births p birth many first here =
    let within : p < length script.processes = subst (λ (n : ℕ). p < n) many (slice_get_within births p birth here) in
    let found : Some birth ≡ Some (if starts_born script p then Born else Unborn) = sym here ∙ first p within in
    cc found

-- whoever has no slots has no store, and the others have words that are all 0
empty_shown : (b slots : ℕ) (store : Option (List ℕ)) (s : CoreState) → ((slot : ℕ) → s.store b slot ≡ 0) → IsEmptyStore slots store → ShowsStore b store s
empty_shown b slots None s none empty = tt
empty_shown b slots (Some words) s none empty = λ slot within. none slot ∙ sym (ap (λ (w : StoreValue). w.word slot) empty)

empty_slots : (slots : ℕ) (store : Option (List ℕ)) → IsEmptyStore slots store → kept_slots store ≡ slots
empty_slots slots None empty = sym empty
empty_slots slots (Some words) empty = ap (λ (w : StoreValue). w.words) empty

no_pages : (pages : List ℕ) → length pages ≡ 0 → [] ≡ pages
no_pages [] none = refl
no_pages (p ∷ pages) none = absurd (omega arith)

abbrev pub AreEmptyStores : ScriptValue → List (Option (List ℕ)) → Type 0
AreEmptyStores script stores = (a : ℕ) (store : Option (List ℕ)) → slice_get stores a ≡ Some store → IsEmptyStore (doer script a).slots store

pub first_parts : (script : ScriptValue) (parts : Parts) → length parts.spaces.items ≡ length script.processes → length parts.births.items ≡ length script.processes
    → length parts.taken.items ≡ length script.actors → length parts.stores.items ≡ length script.actors → AreEmptyStores script parts.stores.items → AreParts script parts
first_parts script parts spaces births taken stores empty =
    record {
      spaces = spaces;
      births = births;
      taken = taken;
      stores = stores;
      slots = λ a store here. empty_slots (doer script a).slots store (empty a store here);
    }

pub parts_shown : (script : ScriptValue) (parts : Parts) → frames_of parts.frames ≡ no_references script.frames.movable script.frames.normal
    → All (λ (space : SpaceParts). space_of space ≡ no_space) parts.spaces.items → length parts.births.items ≡ length script.processes → AreFirst script parts.births.items
    → handles_of parts.handles ≡ (λ _. unmade) → All (λ (pages : ArrayVec ℕ). length pages.items ≡ 0) parts.taken.items → AreEmptyStores script parts.stores.items
    → ShowsParts parts (run_start script).core
parts_shown script parts none spaces many births handles taken stores =
    record {
      frames =
          subst (λ (F : FramesValue). ShowsFrames F (run_start script).core) (sym none)
          (record { movable = refl; normal = refl; count = λ f. refl; mark = λ f. refl; word = λ f w. refl; needs_tables = refl });
      spaces = λ p space here.
          subst (λ (S : SpaceValue). ShowsSpace p S (run_start script).core) (sym (all_at (λ (s : SpaceParts). space_of s ≡ no_space) parts.spaces.items p space spaces here))
          (record { right = λ g. refl; pages = refl; entry = λ g. refl; sequence = refl; has_pinned = refl; structure = refl; table = refl; walks = refl; place = refl; retired = refl });
      births = λ p birth here. first_birth (starts_born script p) birth (birth_found script parts.births.items p birth many births here);
      pins = subst (λ (H : HandlesValue). ShowsHandles H (run_start script).core) (sym handles) (λ h. (refl, refl));
      taken = λ a pages here. no_pages pages.items (all_at (λ (x : ArrayVec ℕ). length x.items ≡ 0) parts.taken.items a pages taken here);
      stores = λ a store here. empty_shown a (doer script a).slots store (run_start script).core (λ slot. refl) (stores a store here);
    }
