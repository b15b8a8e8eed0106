-- Each public contract determines its outcome, the answer and the lent bytes: stated over the contract's own reading, so it changes with the contract.
use Rattle.std.proofs.Common.{◌≡◌, ◌∙◌, sym, refl, ap, ℕ, List, [], ◌∷◌, Option, Some, None, option_map, MatchOption, ◌<◌, length, eqb, arith}
use Rattle.std.specs.List.{join_with_byte}
use Rattle.std.proofs.lemmas.List.Splits.{join_with_byte-slice_split, length-slice_split}
use denote.Ref.{Bor}
use Rattle.promises.specs.Determined.{Determined}
use Rattle.promises.proofs.Puts.{puts-determined}
use Rattle.lines.specs.Text.{tab}
use Rattle.lines.specs.Parts.{parts_of, fields_of}
use Rattle.lines.proofs.hex.digit.Reads as digit
use Rattle.lines.proofs.hex.pattern.Reads as pattern
use Rattle.lines.proofs.hex.put_hex.Reads as put-hex
use Rattle.lines.proofs.hex.bytes.Reads as bytes
use Rattle.lines.proofs.hex.decode.Reads as decode
use Rattle.lines.proofs.hex.put_bytes.Reads as put-bytes
use Rattle.lines.proofs.text.split_field.Reads as split-field
use Rattle.lines.proofs.text.numeral.Reads as numeral
use Rattle.lines.proofs.text.put_decimal.Reads as put-decimal
use Rattle.lines.proofs.text.put_head.Reads as put-head
use Rattle.lines.proofs.text.put_malformed.Reads as put-malformed

-- an answer that shows what is asked for, if there is any
shown : {A B : Type 0} (v : A → B) {o : Option B} (r : Option A) → MatchOption r (o ≡ None) (λ x. o ≡ Some (v x)) → option_map v r ≡ o
shown v None e = sym e
shown v (Some x) e = sym e

pub digit-determined : (κs : _) (a : _) → Determined (digit.Post κs a) (λ r x. r)
digit-determined κs a r r' x x' p q = p.0 ∙ sym q.0

pub pattern-determined : (κs : _) (a : _) → Determined (pattern.Post κs a) (λ r x. r)
pattern-determined κs a r r' x x' p q = p ∙ sym q

pub put-hex-determined : (g : _) (κs : _) (a : _) (v : _) → Determined (put-hex.Post g κs a v) (λ r x. x.1.1.0.now)
put-hex-determined g κs a v r r' x x' p q = p.0 ∙ sym q.0

pub bytes-determined : (κs : _) (a : _) → Determined {Y = ℕ × List ℕ} (bytes.Post κs a) (λ r x. (r, x.1.0.now))
bytes-determined κs a r r' x x' p q = puts-determined p.0 q.0

pub decode-determined : (κs : _) (a : _) → Determined {Y = Option (List ℕ)} (decode.Post κs a) (λ r x. option_map (λ (b : Bor (List ℕ)). b.now) r)
decode-determined κs a r r' x x' p q = shown (λ (b : Bor (List ℕ)). b.now) r p ∙ sym (shown (λ (b : Bor (List ℕ)). b.now) r' q)

pub put-bytes-determined : (g : _) (κs : _) (a : _) (v : _) → Determined (put-bytes.Post g κs a v) (λ r x. x.1.0.now)
put-bytes-determined g κs a v r r' x x' p q = p.0 ∙ sym q.0

-- the first field, and the line that the others make up
abbrev field_and_rest : List (List ℕ) → Option (List ℕ × List ℕ)
field_and_rest [] = None
field_and_rest (f ∷ []) = None
field_and_rest (f ∷ (g ∷ fs)) = Some (f, join_with_byte tab (g ∷ fs))

joined : (f rest : List ℕ) (fs : List (List ℕ)) → join_with_byte tab fs ≡ rest → 0 < length fs → field_and_rest (f ∷ fs) ≡ Some (f, rest)
joined f rest [] e some = absurd (omega arith)
joined f rest (g ∷ fs) e some = rw e refl

split : (line : List ℕ) (r : Option (Bor (List ℕ) × Bor (List ℕ))) → MatchOption r (fields_of line ≡ line ∷ []) (λ p. fields_of line ≡ p.0.now ∷ fields_of p.1.now)
    → option_map (λ (p : Bor (List ℕ) × Bor (List ℕ)). (p.0.now, p.1.now)) r ≡ field_and_rest (fields_of line)
unfolding parts_of
split line None e = rw e refl
split line (Some p) e =
    let some : 0 < length (fields_of p.1.now) = omega (arith, length-slice_split (λ y. eqb y tab) p.1.now) in
    sym (ap field_and_rest e ∙ joined p.0.now p.1.now (fields_of p.1.now) (join_with_byte-slice_split tab p.1.now) some)

pub split-field-determined : (κs : _) (a : _) → Determined {Y = Option (List ℕ × List ℕ)} (split-field.Post κs a) (λ r x. option_map (λ (p : Bor (List ℕ) × Bor (List ℕ)). (p.0.now, p.1.now)) r)
split-field-determined κs a r r' x x' p q = split _ r p.0 ∙ sym (split _ r' q.0)

pub numeral-determined : (κs : _) (a : _) → Determined (numeral.Post κs a) (λ r x. r)
numeral-determined κs a r r' x x' p q = p ∙ sym q

pub put-decimal-determined : (g : _) (κs : _) (a : _) (v : _) → Determined (put-decimal.Post g κs a v) (λ r x. x.1.0.now)
put-decimal-determined g κs a v r r' x x' p q = p.0 ∙ sym q.0

pub put-head-determined : (g : _) (κs : _) (a : _) (v : _) → Determined (put-head.Post g κs a v) (λ r x. x.1.0.now)
put-head-determined g κs a v r r' x x' p q = p.0 ∙ sym q.0

pub put-malformed-determined : (g : _) (κs : _) (a : _) (v : _) → Determined (put-malformed.Post g κs a v) (λ r x. x.0.now)
put-malformed-determined g κs a v r r' x x' p q = p ∙ sym q
