-- Laws of the reply to a line by its fields: the first field and those after it, and a last field that has to be digits, which a tab is not.
use Rattle.std.proofs.Common.{◌≡◌, refl, sym, ap, Bool, true, false, cond, List, [], ◌∷◌, ℕ, suc, ◌+◌, ◌*◌, ◌<◌, eqb, ltb, length, arith, Option, Some, None, option_and_then}
use Rattle.std.specs.Option.{option_map_or}
use Rattle.std.specs.List.{onto_first, join_with_byte}
use Rattle.std.proofs.lemmas.List.Splits.{slice_split-cons_no, length-slice_split, join_with_byte-slice_split}
use borrow.Author.Tests.{ne_eqb}
use Rattle.lines.specs.Text.{tab}
use Rattle.lines.specs.Hex.{digit_of, number_from, pattern_of, hex_pair, hex_bytes, decoded_of}
use Rattle.lines.specs.Parts.{parts_of, fields_of}
use Rattle.lines.specs.Fields.{malformed, ReplyTo, exactly, from_hex}

-- ---- the first field, and those of the line after it
pub exactly-first : (n : ℕ) (g : ReplyTo (suc n)) (line f rest : List ℕ) → fields_of line ≡ f ∷ fields_of rest → exactly (suc n) g (fields_of line) ≡ exactly n (g f) (fields_of rest)
unfolding exactly
exactly-first n g line f rest e = rw e refl

-- one field, and fewer than asked for
pub exactly-one : (n : ℕ) (g : ReplyTo (suc (suc n))) (line : List ℕ) → fields_of line ≡ line ∷ [] → exactly (suc (suc n)) g (fields_of line) ≡ malformed
unfolding exactly
exactly-one n g line e = rw e refl

-- ---- the last field, if several fields in its place make X anyway
pub exactly-last : (g : List ℕ → List ℕ) (s : List ℕ) → (1 < length (fields_of s) → g s ≡ malformed) → exactly 1 g (fields_of s) ≡ g s
unfolding exactly parts_of
exactly-last g s x = by (fields_of s) (join_with_byte-slice_split tab s) (omega (arith, length-slice_split (λ y. eqb y tab) s)) x
  where
    by : (fs : List (List ℕ)) → join_with_byte tab fs ≡ s → 0 < length fs → (1 < length fs → g s ≡ malformed) → exactly 1 g fs ≡ g s
    by [] e some x = absurd (omega arith)
    by (f ∷ []) e some x = ap g e
    by (f ∷ (f' ∷ fs)) e some x = sym (x (omega arith))

-- a digit is no tab, so a text of several fields is neither bytes in hexadecimal nor a pattern
several-rest : (ps : List (List ℕ)) (x : ℕ) → 1 < length (onto_first x ps) → 1 < length ps
several-rest [] x h = absurd (omega arith)
several-rest (p ∷ ps) x h = h

several-digit : (x : ℕ) (s : List ℕ) {d : ℕ} → digit_of x ≡ Some d → 1 < length (fields_of (x ∷ s)) → 1 < length (fields_of s)
unfolding parts_of digit_of
several-digit x s {d} e h =
    let no : (x ≡ tab → ⊥) = λ is. cc (ap digit_of is) in
    several-rest _ x (rw (slice_split-cons_no (λ y. eqb y tab) x s (ne_eqb x tab no)) at h)

several_none : 1 < length (fields_of []) → ⊥
unfolding parts_of
several_none h = omega arith

several-few : (s : List ℕ) → 1 < length (fields_of s) → 2 * length (hex_bytes s) < length s
unfolding hex_bytes hex_pair
several-few [] h = absurd (several_none h)
several-few (x ∷ []) h = omega arith
several-few (x ∷ (y ∷ s)) h = by (digit_of x) (digit_of y) refl refl (several-few s)
  where
    by : (o p : Option ℕ) → digit_of x ≡ o → digit_of y ≡ p → (1 < length (fields_of s) → 2 * length (hex_bytes s) < length s) → 2 * length (option_map_or (λ byte. byte ∷ hex_bytes s) (hex_pair x y) []) < suc (suc (length s))
    by None p e f ih = rw e (omega arith)
    by (Some d) None e f ih = rw (e, f) (omega arith)
    by (Some d) (Some c) e f ih = rw (e, f) (omega (arith, ih (several-digit y s f (several-digit x (y ∷ s) e h))))

pub several-undecoded : (s : List ℕ) → 1 < length (fields_of s) → decoded_of s ≡ None
unfolding decoded_of
several-undecoded s h = rw (ne_eqb (2 * length (hex_bytes s)) (length s) (λ e. omega (arith, e, several-few s h))) refl

cond-none : (t : Bool) → cond {A = Option ℕ} t None None ≡ None
cond-none true = refl
cond-none false = refl

several-no_number : (base n : ℕ) (s : List ℕ) → 1 < length (fields_of s) → number_from base n s ≡ None
unfolding number_from
several-no_number base n [] h = absurd (several_none h)
several-no_number base n (x ∷ s) h = by (digit_of x) refl (λ m. several-no_number base m s)
  where
    by : (o : Option ℕ) → digit_of x ≡ o → ((m : ℕ) → 1 < length (fields_of s) → number_from base m s ≡ None) → option_and_then (λ d. cond (ltb d base) (number_from base (n * base + d) s) None) o ≡ None
    by None e ih = refl
    by (Some d) e ih = rw (ih (n * base + d) (several-digit x s e h)) (cond-none (ltb d base))

pub several-no_pattern : (width : ℕ) (s : List ℕ) → 1 < length (fields_of s) → pattern_of width s ≡ None
unfolding pattern_of
several-no_pattern width s h = rw (several-no_number 16 0 s h) (cond-none (eqb (length s) width))

-- the last field is what has to be bytes in hexadecimal
pub exactly-last_bytes : (g : List ℕ → List ℕ) (s : List ℕ) → (decoded_of s ≡ None → g s ≡ malformed) → exactly 1 g (fields_of s) ≡ g s
exactly-last_bytes g s x = exactly-last g s (λ h. x (several-undecoded s h))

-- ---- bytes in hexadecimal
pub from-hex-some : (reply : List ℕ → List ℕ) (field : List ℕ) {bytes : List ℕ} → decoded_of field ≡ Some bytes → from_hex reply field ≡ reply bytes
unfolding from_hex
from-hex-some reply field e = rw e refl

pub from-hex-none : (reply : List ℕ → List ℕ) (field : List ℕ) → decoded_of field ≡ None → from_hex reply field ≡ malformed
unfolding from_hex
from-hex-none reply field e = rw e refl
