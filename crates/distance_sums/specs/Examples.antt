-- Each of the four distances of some bodies: one table, and one statement about all of it, which antt computes.
use Rattle.std.specs.Prelude.{◌≡◌, refl, List, [], ◌∷◌, ◌++◌, map, ℕ, Float}
use Rattle.std.proofs.Math.Option.{Option, some}
use Rattle.std.specs.Float.Ieee.{add, sub, mul, div, neg, eq, lt, of_int, of_bits}
use Rattle.std.specs.Float.{binary64}
use Rattle.float_laws.specs.Running.{running, total}
use Rattle.little_endian.specs.Bytes.{number_at}
use Rattle.rounding.specs.Root.{root}
use Rattle.bodies.specs.Merged.{merged}
use Rattle.vector_types.specs.declared.VectorType.TheVariants.{Float32Dense, Float32Sparse, Float1Bit}
use Rattle.distance_sums.specs.Extremes.{lesser, greater}
use Rattle.distance_sums.specs.Dense.{shares_with}
use Rattle.distance_sums.specs.Values.{cosine_of, l2_of, dot_of, jaccard_of}

-- what the definitions say, and what they are to say
pub record Example : Type 0 where
  pub defined : Option Float
  pub written : Option Float

-- a distance, by its pattern
abbrev pub has_pattern : Option Float → ℕ → Example
has_pattern x bits = record { defined = x; written = some (of_bits binary64 bits) }

-- dense f32: 0.0, 1.0, 2.0, 0.1
abbrev pub zero_bytes : List ℕ
zero_bytes = 0 ∷ 0 ∷ 0 ∷ 0 ∷ []

abbrev pub one_bytes : List ℕ
one_bytes = 0 ∷ 0 ∷ 0x80 ∷ 0x3f ∷ []

abbrev pub two_bytes : List ℕ
two_bytes = 0 ∷ 0 ∷ 0 ∷ 0x40 ∷ []

abbrev pub tenth_bytes : List ℕ
tenth_bytes = 0xcd ∷ 0xcc ∷ 0xcc ∷ 0x3d ∷ []

-- sparse: 1.0 at one index
abbrev pub one_at : ℕ → List ℕ
one_at i = one_bytes ++ i ∷ 0 ∷ 0 ∷ 0 ∷ []

abbrev pub nan_pattern : ℕ
nan_pattern = 0x7ff8_0000_0000_0000

abbrev pub table : List Example
table =
    -- f32 vectors are added up in f32; the root of their L2 is taken in f64
    has_pattern (some (cosine_of Float32Dense 2 (tenth_bytes ++ tenth_bytes) (one_bytes ++ two_bytes))) 0x3faa_4630_0000_0000
    ∷ has_pattern (l2_of Float32Dense 2 (zero_bytes ++ zero_bytes) (one_bytes ++ one_bytes)) 0x3ff6_a09e_667f_3bcd
    -- a zero norm of a sparse vector; an element without a partner adds nothing to the dot, and counts as 0 in Jaccard
    ∷ has_pattern (some (cosine_of Float32Sparse 2 [] (one_at 0))) nan_pattern
    ∷ has_pattern (some (dot_of Float32Sparse 2 (one_at 0) (one_at 1))) 0x8000_0000_0000_0000
    ∷ has_pattern (some (jaccard_of Float32Sparse 2 (one_at 0) (one_at 1))) 0x3ff0_0000_0000_0000
    -- dims 1: the bit that differs is an unused one
    ∷ has_pattern (some (cosine_of Float1Bit 1 (2 ∷ []) (0 ∷ []))) 0x3ff0_0000_0000_0000
    -- dims 2, of which one differs
    ∷ has_pattern (some (dot_of Float1Bit 2 (1 ∷ []) (3 ∷ []))) 0x8000_0000_0000_0000
    ∷ []

pub table-holds : map (λ (e : Example). e.defined) table ≡ map (λ (e : Example). e.written) table
unfolding cosine_of l2_of dot_of jaccard_of number_at running total root merged shares_with lesser greater add sub mul div neg eq lt of_int of_bits
table-holds = refl
