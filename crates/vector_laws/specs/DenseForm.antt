-- A blob as a dense one of either width, what each distance asks of two sparse bodies so that it stays the same, and what staying the same means.
use Rattle.std.specs.Prelude.{ℕ, ◌+◌, ◌*◌, ◌<◌, ◌≡◌, false, List, T, Result, Ok, Err}
use Rattle.std.specs.Float.{Format, binary32, binary64}
use Rattle.std.specs.Float.Ieee.Scale.{finite}
use Rattle.little_endian.specs.Bytes.{f32_at}
use Rattle.vector_types.specs.Parts.{body_of}
use Rattle.blob_writer.specs.Write.{blob_of}
use Rattle.vector_types.specs.declared.View.{View}
use Rattle.vector_types.specs.declared.VectorType.{VectorType}
use Rattle.vector_types.specs.declared.VectorType.TheVariants.{Float32Dense, Float64Dense}
use Rattle.bodies.specs.Entries.{stored_count}
use Rattle.convert_parts.specs.Result.{result_of}
use Rattle.distance_sums.specs.Dense.{Products, is_zero}
use Rattle.distance_sums.specs.Sparse.{sparse_products}
use Rattle.distance.specs.declared.Distance.{Distance}
use Rattle.distance.specs.declared.Distance.TheVariants.{Cos, L2, Dot, Jaccard}
use Rattle.distance.specs.declared.Measured.{Measured}
use Rattle.distance.specs.declared.refused.Refused.{Refused}
use Rattle.distance.specs.declared.Which.{Which}

-- the dense kind whose elements have the width f, and how long its blob of d elements is
abbrev pub dense_kind : Format → VectorType
dense_kind binary32 = Float32Dense
dense_kind binary64 = Float64Dense

abbrev pub dense_blob_length : Format → ℕ → ℕ
dense_blob_length binary32 d = 4 * d
dense_blob_length binary64 d = 8 * d + 1

-- what the body of the blob s, with the view v, is converted to, and the blob that the writer makes of that
abbrev pub dense_form_body : Format → List ℕ → View → List ℕ
dense_form_body f s v = result_of v.kind (dense_kind f) v.dims.0 (body_of s)

abbrev pub dense_form : Format → List ℕ → View → List ℕ
dense_form f s v = blob_of (dense_kind f) v.dims.0 (dense_form_body f s v)

-- all stored values are finite
abbrev pub AllFinite : List ℕ → Type 0
AllFinite body = (j : ℕ) → j < stored_count body → T (finite (f32_at body (4 * j)))

-- no sum is a zero of either sign, as computed; NaN and the infinities are none
pub record NoZero (s : Products) : Type 0 where
  pub dot : is_zero s.dot ≡ false
  pub norm1 : is_zero s.norm1 ≡ false
  pub norm2 : is_zero s.norm2 ≡ false

-- what is asked of two bodies, besides that their indices rise
abbrev pub Premises : Distance → List ℕ → List ℕ → Type 0
Premises Cos a b = AllFinite a × AllFinite b × NoZero (sparse_products a b)
Premises L2 a b = Unit
Premises Dot a b = AllFinite a × AllFinite b
Premises Jaccard a b = Unit

-- both answers are the same distance, whatever the counts, or both are the same refusal about the same blob
abbrev pub SameDistance : Result Measured (Refused Which) → Result Measured (Refused Which) → Type 0
SameDistance (Ok x) (Ok y) = x.distance ≡ y.distance
SameDistance (Ok x) (Err r) = ⊥
SameDistance (Err r) (Ok y) = ⊥
SameDistance (Err r) (Err q) = r ≡ q
