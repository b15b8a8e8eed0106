-- A body that fits its kind and dims: how long it is, kind by kind, and that each element stands within it.
use mathlib.Core.Path.{◌≡◌, ap, subst}
use mathlib.Core.Bool.{true, false}
use Prim.Native.Nat.{ℕ, ◌+◌, ◌*◌, ◌%◌, ◌≤◌, ◌<◌}
use native.Mathlib.Omega.{arith}
use borrow.Author.Tests.{eqb-true, eqb-false}
use Rattle.vector_types.specs.Layout.{byte_of, ceil, has_byte, body_fits}
use Rattle.vector_types.specs.declared.VectorType.{VectorType}
use Rattle.vector_types.specs.declared.VectorType.TheVariants.{Float32Dense, Float64Dense, Float32Sparse, Float1Bit, Float8}

module _ {k : VectorType} (d m : ℕ) where
  -- of a kind that is known
  pub known : (t : VectorType) → k ≡ t → body_fits k d m ≡ true → body_fits t d m ≡ true
  known t e h = subst (λ (x : VectorType). body_fits x d m ≡ true) e h

  pub float32-length : k ≡ Float32Dense → body_fits k d m ≡ true → m ≡ 4 * d
  unfolding body_fits
  float32-length e h = eqb-true m (4 * d) (known Float32Dense e h)

  pub float64-length : k ≡ Float64Dense → body_fits k d m ≡ true → m ≡ 8 * d
  unfolding body_fits
  float64-length e h = eqb-true m (8 * d) (known Float64Dense e h)

  pub sparse-length : k ≡ Float32Sparse → body_fits k d m ≡ true → m % 8 ≡ 0
  unfolding body_fits
  sparse-length e h = eqb-true (m % 8) 0 (known Float32Sparse e h)

  pub one-bit-length : k ≡ Float1Bit → body_fits k d m ≡ true → m ≡ ceil d 8
  unfolding body_fits
  one-bit-length e h = eqb-true m (ceil d 8) (known Float1Bit e h)

  pub float8-length : k ≡ Float8 → body_fits k d m ≡ true → m ≡ 4 * ceil d 4 + 8
  unfolding body_fits
  float8-length e h = eqb-true m (4 * ceil d 4 + 8) (known Float8 e h)

-- each of its elements stands within it
module _ {k : VectorType} (d m i : ℕ) where
  pub float32-within : k ≡ Float32Dense → body_fits k d m ≡ true → i < d → 4 * i + 4 ≤ m
  float32-within e h below = omega (arith, float32-length d m e h)

  pub float64-within : k ≡ Float64Dense → body_fits k d m ≡ true → i < d → 8 * i + 8 ≤ m
  float64-within e h below = omega (arith, float64-length d m e h)

  pub one-bit-within : k ≡ Float1Bit → body_fits k d m ≡ true → i < d → i < 8 * m
  one-bit-within e h below = omega (arith, one-bit-length d m e h)

  pub float8-within : k ≡ Float8 → body_fits k d m ≡ true → i < d → i < m
  float8-within e h below = omega (arith, float8-length d m e h)

-- a kind has its own type byte
pub not-kind : {k u : VectorType} → k ≡ u → has_byte (byte_of u) k ≡ false → ⊥
not-kind {k} {u} e h = eqb-false (byte_of k) (byte_of u) h (ap (λ (x : VectorType). byte_of x) e)
