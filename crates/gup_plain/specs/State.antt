-- The plain state.
use Rattle.std.specs.Prelude.{◌≡◌, ℕ, Bool, false, if◌then◌else◌, List, [], Option, None, Some, IsSome}
use Rattle.gup_base.specs.declared.entry.Rights.{Rights}

-- A process is declared, then perhaps brought by a fork, in whose course it grows. A fork that fails leaves it
-- failed for good.
pub data Birth : Type 0 where
  unborn : Birth
  growing : (parent : ℕ) → Birth
  born : Birth
  failed : Birth

-- A handle is the name of one pin: of the objects that it pins, in order, and of whether it may write them.
pub data Handle : Type 0 where
  unmade : Handle
  held : (by : ℕ) (objects : List ℕ) (write : Bool) → Handle
  given : (to : ℕ) (objects : List ℕ) (write : Bool) → Handle
  gone : Handle

-- a page that a running pin has taken, and the object that it named then
pub record Pending : Type 0 where
  pub page : ℕ
  pub object : ℕ
  pub write : Bool

-- what a mirror slot was filled with
pub record Noted : Type 0 where
  pub proc : ℕ
  pub page : ℕ
  pub object : ℕ

-- Processes, pages, words, objects, handles, actors and mirror slots are numbers. A page is named where it has
-- rights, and then it names its object. Objects are never removed: those made so far are the numbers below
-- `made`.
pub record PlainState : Type 0 where
  -- objects and words: the contents
  pub content : ℕ → ℕ → ℕ
  pub made : ℕ
  -- processes
  pub birth : ℕ → Birth
  -- processes and pages: rights, and the object that a named page names
  pub right : ℕ → ℕ → Option Rights
  pub object : ℕ → ℕ → ℕ
  -- how many pages of a process are named
  pub pages : ℕ → ℕ
  -- of a growing process: which words of which pages are copied
  pub copied : ℕ → ℕ → ℕ → Bool
  pub handle : ℕ → Handle
  -- actors: the pages that a running pin has taken, in order, and a device's words
  pub pending : ℕ → List Pending
  pub store : ℕ → ℕ → ℕ
  pub slot : ℕ → Option Noted

-- the start, at which some processes are born: without pages, pins or filled slots, and all words 0
abbrev pub plain_start : (ℕ → Bool) → PlainState
plain_start is_born =
    record {
      content = λ _ _. 0;
      made = 0;
      birth = λ p. if is_born p then born else unborn;
      right = λ _ _. None;
      object = λ _ _. 0;
      pages = λ _. 0;
      copied = λ _ _ _. false;
      handle = λ _. unmade;
      pending = λ _. [];
      store = λ _ _. 0;
      slot = λ _. None;
    }

-- the objects of a handle that is made, in the order of its pages
abbrev pub objects_of : Handle → List ℕ
objects_of (held by objects write) = objects
objects_of (given to objects write) = objects
objects_of unmade = []
objects_of gone = []

-- the object where there are rights, and 0 where there are none
abbrev pub named_or_zero : Option Rights → ℕ → ℕ
named_or_zero None object = 0
named_or_zero (Some rights) object = object

-- the page of a born process is named
abbrev pub IsNamed : PlainState → ℕ → ℕ → Type 0
IsNamed s p page = (s.birth p ≡ born) × IsSome (s.right p page)
