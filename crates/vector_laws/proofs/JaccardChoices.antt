-- Of 0.0 and -0.0 a minimum and a maximum may choose either, and no Jaccard answer tells which: the sums are the same (`EitherZero.antt` of
-- `distance_sums`), so the values are, kind by kind, and the answers.
use mathlib.Core.Path.{◌≡◌, refl, ap}
use mathlib.Core.List.{List}
use mathlib.Core.Option.{some}
use Prim.Native.Nat.{ℕ, ◌*◌}
use lib.Ieee.{Float, Format, binary32, binary64}
use lib.Ieee.Fits.{fits_widens}
use Rattle.little_endian.proofs.Floats.{float_at-fits}
use Rattle.vector_types.specs.declared.VectorType.{VectorType}
use Rattle.vector_types.specs.declared.VectorType.TheVariants.{Float32Dense, Float64Dense, Float32Sparse, Float1Bit, Float8}
use Rattle.bodies.specs.Entries.{entries_of, stored_count}
use Rattle.bodies.proofs.Elements.{dense-fits, float8-fits}
use Rattle.distance_sums.specs.Extremes.{AreChoices}
use Rattle.distance_sums.specs.Dense.{jaccard_by}
use Rattle.distance_sums.specs.Sparse.{sparse_shares_by}
use Rattle.distance_sums.specs.Inner.Shares.{sparse_shares}
use Rattle.distance_sums.specs.Values.{jaccard_choosing, jaccard_of}
use Rattle.distance_sums.proofs.EitherZero.{shares-either-zero, merged-either-zero}
use Rattle.distance.specs.Values.{value_of}
use Rattle.distance.specs.Answer.{answer_by, distance_of}
use Rattle.distance.specs.declared.Distance.TheVariants.{Jaccard}
use Rattle.vector_laws.proofs.Measured.{answers-same}

module _ (lo hi : Float → Float → Float) (c : AreChoices binary64 lo hi) where
  -- an f32 is an f64 too
  chosen-in : (f : Format) → AreChoices f lo hi
  chosen-in binary32 = record {
    low = λ x y h k. c.low x y (fits_widens x h) (fits_widens y k);
    high = λ x y h k. c.high x y (fits_widens x h) (fits_widens y k);
  }
  chosen-in binary64 = c

  same-sparse : (a b : List ℕ) → sparse_shares_by lo hi a b ≡ sparse_shares a b
  unfolding sparse_shares_by
  same-sparse a b =
      merged-either-zero binary32 lo hi (chosen-in binary32) (entries_of a) (entries_of b) (λ i. float_at-fits binary32 a (4 * i)) (λ j. float_at-fits binary32 b (4 * j))
      (stored_count a) (stored_count b)

  same-value : (k : VectorType) (d : ℕ) (a b : List ℕ) → jaccard_choosing lo hi k d a b ≡ jaccard_of k d a b
  unfolding jaccard_of
  same-value Float32Dense d a b =
      ap (jaccard_by binary32) (shares-either-zero binary32 lo hi (chosen-in binary32) _ _ d (λ i l. dense-fits binary32 a i) (λ i l. dense-fits binary32 b i))
  same-value Float64Dense d a b =
      ap (jaccard_by binary64) (shares-either-zero binary64 lo hi c _ _ d (λ i l. dense-fits binary64 a i) (λ i l. dense-fits binary64 b i))
  same-value Float32Sparse d a b = ap (jaccard_by binary32) (same-sparse a b)
  same-value Float1Bit d a b = refl
  same-value Float8 d a b =
      ap (jaccard_by binary64) (shares-either-zero binary64 lo hi c _ _ d (λ i l. float8-fits binary64 d a i) (λ i l. float8-fits binary64 d b i))

  pub jaccard-either-zero : (s t : List ℕ) → answer_by (λ k d a b. some (jaccard_choosing lo hi k d a b)) s t ≡ distance_of Jaccard s t
  unfolding distance_of value_of
  jaccard-either-zero s t =
      answers-same (λ k d a b. some (jaccard_choosing lo hi k d a b)) (value_of Jaccard) s t s t refl refl
      (λ v w e g same. ap some (same-value v.kind v.dims.0 _ _))
