-- Counts over two 1-bit bodies with the bodies exchanged: each digit rule is the same the other way round.
use mathlib.Core.Path.{◌≡◌, refl, ap₂}
use mathlib.Core.List.{List}
use Prim.Native.Nat.{ℕ, zero, suc, ◌+◌, min, max}
use native.Mathlib.Nat.{min_comm, max_comm}
use lib.Bits.{differ}
use Rattle.float_laws.specs.Running.{total}
use Rattle.vector_types.specs.Layout.{bit_at}
use Rattle.distance_sums.specs.OneBit.{tally, differing, overlap_of}

differ-swap : (x y : ℕ) → differ x y ≡ differ y x
differ-swap zero zero = refl
differ-swap zero (suc y) = refl
differ-swap (suc x) zero = refl
differ-swap (suc x) (suc y) = differ-swap x y

tally-swap : (f : ℕ → ℕ → ℕ) → ((x y : ℕ) → f x y ≡ f y x) → (a b : List ℕ) (m : ℕ) → tally f a b m ≡ tally f b a m
unfolding total
tally-swap f c a b zero = refl
tally-swap f c a b (suc m) = ap₂ ◌+◌ (tally-swap f c a b m) (c (bit_at a m) (bit_at b m))

pub differing-swap : (a b : List ℕ) (m : ℕ) → differing a b m ≡ differing b a m
unfolding differing
differing-swap = tally-swap differ differ-swap

pub overlap-swap : (a b : List ℕ) (m : ℕ) → overlap_of a b m ≡ overlap_of b a m
unfolding overlap_of
overlap-swap a b m = rw (tally-swap min min_comm a b m, tally-swap max max_comm a b m)
