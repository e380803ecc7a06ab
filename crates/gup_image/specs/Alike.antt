-- Machines that are compared by their images.
use Rattle.std.specs.Prelude.{◌≡◌, ℕ, ◌<◌, true, List, Option, Some, length, slice_get}
use Rattle.gup_space.specs.Space.{AreMapped, has_table}
use Rattle.gup_tables.specs.Pool.{PoolParts, pool_of}
use Rattle.gup_notify.specs.Mirrors.{Filled}
use Rattle.gup_op_base.specs.Jobs.{place_of}
use Rattle.gup_op_base.specs.Tidy.{AreNumbered}
use Rattle.gup_op_pins.specs.Held.{slots_in}
use Rattle.gup_op_pins.specs.Pins.{last_page}
use Rattle.gup_op_waits.specs.Parts.{EachSpace}
use Rattle.gup_op_waits.specs.declared.parts.Parts.{Parts}
use Rattle.gup_op_waits.specs.declared.seats.Seat.{Seat}
use Rattle.gup_image.specs.declared.fact.Fact.{Fact}
use Rattle.gup_image.specs.Image.{image_of, HasNoMore}

-- what an image is made of
pub record Imaged : Type 0 where
  pub parts : Parts
  pub mirrors : List (Option Filled)
  pub seats : List Seat
  pub pool : PoolParts

abbrev pub image_in : Imaged → List Fact
image_in m = image_of m.parts m.mirrors m.seats (pool_of m.pool)

-- Nothing is past what an image goes over, each mapped page has the number of one, each entry is of a mapped page, and each page table
-- of a process is the pool's.
pub record IsWhole (m : Imaged) : Type 0 where
  pub more : HasNoMore m.parts m.mirrors (pool_of m.pool)
  pub births : length m.parts.births.items ≡ length m.parts.spaces.items
  pub numbered : EachSpace AreNumbered m.parts.spaces.items
  pub mapped : EachSpace AreMapped m.parts.spaces.items
  pub tables : EachSpace (λ s. (table : ℕ) → has_table s table ≡ true → table < (pool_of m.pool).tables) m.parts.spaces.items

-- both have as many processes, actors and page tables, and stores of the same sizes
pub record AreOfOne (m n : Imaged) : Type 0 where
  pub one : IsWhole m
  pub other : IsWhole n
  pub spaces : length m.parts.spaces.items ≡ length n.parts.spaces.items
  pub taken : length m.parts.taken.items ≡ length n.parts.taken.items
  pub stores : length m.parts.stores.items ≡ length n.parts.stores.items
  pub slots : (a : ℕ) (x y : Option (List ℕ)) → slice_get m.parts.stores.items a ≡ Some x → slice_get n.parts.stores.items a ≡ Some y → slots_in x ≡ slots_in y
  pub seats : length m.seats ≡ length n.seats
  pub tables : (pool_of m.pool).tables ≡ (pool_of n.pool).tables

-- the same operation, as far, and its job at the same place; of a walk that drops its pages the last one that is left is the same, too
pub record IsSameSeat (x y : Seat) : Type 0 where
  pub answered : x.answered ≡ y.answered
  pub far : x.far ≡ y.far
  pub place : place_of x.job ≡ place_of y.job
  pub last : last_page x.job ≡ last_page y.job

-- each actor stands at the same place in both
abbrev pub AreSameSeats : (xs ys : List Seat) → Type 0
AreSameSeats xs ys = (a : ℕ) (x y : Seat) → slice_get xs a ≡ Some x → slice_get ys a ≡ Some y → IsSameSeat x y
