-- Which blobs have a view of d elements, a kind at a time: by how many bytes stand before the type byte, the count and the indices.
use Rattle.std.proofs.Common.{◌≡◌, refl, ◌∙◌, false, List, ℕ, ◌+◌, ◌-◌, ◌*◌, ◌/◌, ◌<◌, ◌≤◌, arith, ltb, length, get_or, eq-eqb, ne_eqb, le-ltb, Ok}
use Rattle.std.proofs.lemmas.Bool.{lt-leb}
use Rattle.little_endian.specs.Bytes.{u32_at}
use Rattle.vector_types.specs.Answers.{accepted_as}
use Rattle.vector_types.specs.Search.{any_index}
use Rattle.vector_types.specs.Layout.{max_blob_length, max_dims, ceil, has_byte, named_kind, length_before_type, is_outside}
use Rattle.vector_types.specs.Read.{read_of}
use Rattle.vector_types.specs.declared.VectorType.TheVariants.{Float32Dense, Float64Dense, Float32Sparse, Float1Bit, Float8}
use Rattle.vector_types.specs.declared.VectorType.{VectorType}
use Rattle.vector_types.specs.declared.Mode.TheVariants.{Plain}
use Rattle.vector_types.proofs.Ends.{named-typed}
use Rattle.vector_types.proofs.ByKind.{read-dense32, read-dense64, read-one-bit, read-float8, read-sparse}

module _ (s : List ℕ) (n d : ℕ) (size : length_before_type s ≡ n) (few : d ≤ max_dims) (short : length s ≤ max_blob_length) where
  dims-within : ltb max_dims d ≡ false
  dims-within = le-ltb max_dims d few

  -- the bytes before the type byte
  before-typed : (k : VectorType) → named_kind s ≡ Ok k → has_byte 1 k ≡ false → length s - 1 ≡ n
  before-typed k names other = omega (arith, (named-typed s k names other).one_more)

  pub reads-float32 : named_kind s ≡ Ok Float32Dense → n ≡ 4 * d → read_of Plain s ≡ accepted_as Float32Dense d n
  reads-float32 names e =
      let whole : n / 4 ≡ d = omega arith in
      read-dense32 s short n names size ∙ simp (whole, eq-eqb n (4 * d) e, dims-within)

  pub reads-float64 : named_kind s ≡ Ok Float64Dense → n ≡ 8 * d → read_of Plain s ≡ accepted_as Float64Dense d n
  reads-float64 names e =
      let whole : n / 8 ≡ d = omega arith in
      read-dense64 s short n names size ∙ simp (whole, eq-eqb n (8 * d) e, dims-within)

  pub reads-one-bit : named_kind s ≡ Ok Float1Bit → 0 < d → 8 + d ≤ 8 * n → get_or s (n - 1) 0 ≡ 8 * n - d
      → read_of Plain s ≡ accepted_as Float1Bit d (ceil d 8)
  reads-one-bit names some more t =
      let rest : 8 * n - (8 * n - d) ≡ d = omega arith in
      let counted = le-ltb (8 * n) (8 * n - d) (omega arith) in
      let apart = lt-leb n (ceil d 8) (omega arith) in
      read-one-bit s short names
      ∙ simp (before-typed Float1Bit names refl, t, ne_eqb n 0 (omega arith), counted, rest, apart, ne_eqb d 0 (omega arith), dims-within)

  pub reads-float8 : named_kind s ≡ Ok Float8 → 0 < d → n ≡ 4 * ceil d 4 + 10 → get_or s (n - 1) 0 ≡ 4 * ceil d 4 - d
      → read_of Plain s ≡ accepted_as Float8 d (n - 2)
  reads-float8 names some e t =
      let c = ceil d 4 in
      let rest : n - 10 - (4 * c - d) ≡ d = omega arith in
      let counted = le-ltb (n - 10) (4 * c - d) (omega arith) in
      let aligned = eq-eqb (n - 2) (4 * c + 8) (omega arith) in
      read-float8 s short names
      ∙ simp (before-typed Float8 names refl, t, ne_eqb n 0 (omega arith), counted, le-ltb n 10 (omega arith), rest, aligned, ne_eqb d 0 (omega arith), dims-within)

  pub reads-sparse : (k : ℕ) → named_kind s ≡ Ok Float32Sparse → n ≡ 8 * k + 4 → u32_at s (n - 4) ≡ d → any_index (is_outside s k d) k ≡ false
      → read_of Plain s ≡ accepted_as Float32Sparse d (8 * k)
  reads-sparse k names e t none =
      let count : n / 8 ≡ k = omega arith in
      read-sparse s short names ∙ simp (before-typed Float32Sparse names refl, count, t, eq-eqb n (4 + 8 * k) (omega arith), none, dims-within)
