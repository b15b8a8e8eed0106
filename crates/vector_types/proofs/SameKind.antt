-- Kinds are told apart by their type bytes: each byte names its kind back. The derived `==` tells them apart by the same bytes.
use Rattle.std.proofs.Common.{◌≡◌, refl, ap, true, false, Ok, eqb-true, eq-eqb, rules}
use Rattle.std.proofs.lemmas.Bool.{false_from_ne_true}
use Rattle.std.specs.Cmp.{both_ways}
use denote.Enum.Bare.{sameb, same_true, true_same}
use Rattle.vector_types.specs.Layout.{byte_of, has_byte, by_byte}
use Rattle.vector_types.specs.declared.VectorType.{VectorType}
use Rattle.vector_types.specs.declared.VectorType.TheVariants.{Float32Dense}
use Rattle.vector_types.specs.contracts.VectorType.{the_type}

pub type-byte-names : (k : VectorType) → by_byte (byte_of k) ≡ Ok k
unfolding by_byte
type-byte-names Float32Dense = refl
type-byte-names _ = refl

pub own-byte : (k : VectorType) → has_byte (byte_of k) k ≡ true
own-byte k = eq-eqb (byte_of k) (byte_of k) refl

pub same_kind : (k l : VectorType) → has_byte (byte_of l) k ≡ true → k ≡ l
same_kind k l e =
    let same_byte = ap by_byte (eqb-true (byte_of k) (byte_of l) e) in
    cc (type-byte-names k, type-byte-names l)

pub other_kind : (k l : VectorType) → (k ≡ l → ⊥) → has_byte (byte_of l) k ≡ false
other_kind k l apart = false_from_ne_true (has_byte (byte_of l) k) (λ e. apart (same_kind k l e))

-- `sameb the_type k l` is what `k == l` answers
pub eq-has-byte : (k l : VectorType) → sameb the_type k l ≡ has_byte (byte_of l) k
eq-has-byte k l = both_ways (sameb the_type k l) (has_byte (byte_of l) k)
    (λ e. let one = same_true the_type (search rules) k l e in rw one (own-byte l))
    (λ e. true_same the_type k l (same_kind k l e))
