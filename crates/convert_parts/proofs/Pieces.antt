-- Laws of pieces: how long they are together, and a loop that writes them one after another from the front.
use mathlib.Core.Path.{◌≡◌, refl, sym, ap, ◌∙◌}
use mathlib.Core.List.{List, [], ◌∷◌, ◌++◌}
use Prim.Native.Nat.{ℕ, zero, suc, ◌+◌, ◌-◌, ◌*◌, ◌<◌, ◌≤◌}
use native.Mathlib.Nat.{add-zero, one-mul, mul-le-mul_left}
use native.Mathlib.Numerals.{add-one}
use native.Mathlib.Omega.{arith}
use lib.ListN.{length, get_or, get_or-append, set, drop, replicate, length-append, replicate-append-replicate}
use lib.Seq.{get_or_at, take_at, drop_at, drop-drop}
use lib.Ieee.{Float, Format, to_bits}
use Rattle.little_endian.specs.Bytes.{put, width, bytes_of, float_bytes}
use Rattle.little_endian.proofs.Numbers.{length-bytes_of}
use Rattle.promises.specs.Onto.{onto}
use Rattle.promises.proofs.Onto.{onto-put, length-onto}
use Rattle.convert_parts.specs.Pieces.{pieces}
use Rattle.convert_parts.specs.Dense.{floats_of}

-- bytes put right after what was written
pub put-after : (v vs l o : List ℕ) (n : ℕ) → length v ≡ n → o ≡ onto v l → put o n vs ≡ onto (v ++ vs) l
unfolding put
put-after v vs l o n size e =
    let rest = drop (length v) l in
    rw (e, take_at v rest n size, ← drop-drop (length vs) n (v ++ rest), drop_at v rest n size, drop-drop, length-append)

module _ (g : ℕ → List ℕ) where
  pieces-next : (n : ℕ) → pieces g (n + 1) ≡ pieces g n ++ g n
  unfolding pieces
  pieces-next n = rw add-one

  -- pieces of w bytes each
  module _ (w : ℕ) (wide : (i : ℕ) → length (g i) ≡ w) where
    pub length-pieces : (n : ℕ) → length (pieces g n) ≡ w * n
    unfolding pieces
    length-pieces zero = omega arith
    length-pieces (suc n) = rw (length-append, wide n, length-pieces n) (omega arith)

    pub put-piece : (l o : List ℕ) (i : ℕ) → o ≡ onto (pieces g i) l → put o (w * i) (g i) ≡ onto (pieces g (i + 1)) l
    put-piece l o i e = rw pieces-next (put-after (pieces g i) (g i) l o (w * i) (length-pieces i) e)

-- pieces of one byte each
module _ (b : ℕ → ℕ) where
  pub length-bytes : (n : ℕ) → length (pieces (λ i. b i ∷ []) n) ≡ n
  length-bytes n = length-pieces (λ i. b i ∷ []) 1 (λ i. refl) n ∙ one-mul n

  set-byte : (l o : List ℕ) (i : ℕ) → o ≡ onto (pieces (λ j. b j ∷ []) i) l → i < length l
      → set o i (b i) ≡ onto (pieces (λ j. b j ∷ []) (i + 1)) l
  set-byte l o i e room = rw pieces-next (onto-put (pieces (λ j. b j ∷ []) i) l o (b i) i (sym (length-bytes i)) e room).1

  get_d-with : (i k : ℕ) → get_or (pieces (λ j. b j ∷ []) (i + k + 1)) i 0 ≡ b i
  get_d-with i zero = rw (add-zero, pieces-next) (get_or_at (pieces (λ j. b j ∷ []) i) (b i) [] 0 i (length-bytes i))
  get_d-with i (suc k) =
      let less : i < length (pieces (λ j. b j ∷ []) (i + suc k)) = rw length-bytes (omega arith) in
      let same : i + suc k ≡ i + k + 1 = omega arith in
      rw pieces-next (get_or-append (pieces (λ j. b j ∷ []) (i + suc k)) (b (i + suc k) ∷ []) 0 i less ∙ rw same (get_d-with i k))

  -- which byte stands where
  pub get_d-bytes : (n i : ℕ) → i < n → get_or (pieces (λ j. b j ∷ []) n) i 0 ≡ b i
  get_d-bytes n i h = let e : i + (n - i - 1) + 1 ≡ n = omega arith in rw e at (get_d-with i (n - i - 1))

pub pieces-zeros : (n : ℕ) → pieces (λ _. 0 ∷ []) n ≡ replicate n 0
unfolding pieces
pieces-zeros zero = refl
pieces-zeros (suc n) = rw (pieces-zeros n, replicate-append-replicate {A = ℕ} n 1 0, add-one)

-- floats
pub length-floats : (f : Format) (e : ℕ → Float) (n : ℕ) → length (floats_of f e n) ≡ width f * n
length-floats f e n = length-pieces (λ i. float_bytes f (e i)) (width f) (λ i. length-bytes_of (width f) (to_bits f (e i))) n

-- ---- a loop of n turns: after i of them new i stands at the front of o, which was l
pub record FilledSoFar (new : ℕ → List ℕ) (n : ℕ) (l o : List ℕ) (i : ℕ) : Type 0 where
  pub within : i ≤ n
  pub written : o ≡ onto (new i) l
  pub long : length o ≡ length l

pub filled : (new : ℕ → List ℕ) (n : ℕ) (l o : List ℕ) (i : ℕ) → i ≤ n → length (new i) ≤ length l → o ≡ onto (new i) l → FilledSoFar new n l o i
filled new n l o i within room e = record { within = within; written = e; long = ap length e ∙ length-onto (new i) l room }

pub fill-all : {new : ℕ → List ℕ} {n : ℕ} {l o : List ℕ} {i : ℕ} → FilledSoFar new n l o i → n ≤ i → o ≡ onto (new n) l
fill-all {new} {n} {l} {o} {i} h ends = let all : n ≡ i = omega (arith, h.within) in rw all h.written

pub fill_none : (g : ℕ → List ℕ) (n : ℕ) (l : List ℕ) → FilledSoFar (pieces g) n l l 0
unfolding pieces
fill_none g n l = record { within = omega arith; written = refl; long = refl }

-- a turn that puts a piece, a byte, a float
pub fill-piece : (g : ℕ → List ℕ) (w : ℕ) → ((i : ℕ) → length (g i) ≡ w) → {n : ℕ} {l o : List ℕ} {i : ℕ} → FilledSoFar (pieces g) n l o i → i < n → w * n ≤ length l
    → (o' : List ℕ) → o' ≡ put o (w * i) (g i) → FilledSoFar (pieces g) n l o' (i + 1)
fill-piece g w wide {n} {l} {o} {i} h less room o' e =
    let size = length-pieces g w wide (i + 1) in
    let within : w * (i + 1) ≤ w * n = mul-le-mul_left w (omega arith) in
    filled (pieces g) n l o' (i + 1) (omega arith) (omega arith) (e ∙ put-piece g w wide l o i h.written)

pub fill-byte : (b : ℕ → ℕ) {n : ℕ} {l o : List ℕ} {i : ℕ} → FilledSoFar (pieces (λ j. b j ∷ [])) n l o i → i < n → n ≤ length l
    → (v : ℕ) → v ≡ b i → FilledSoFar (pieces (λ j. b j ∷ [])) n l (set o i v) (i + 1)
fill-byte b {n} {l} {o} {i} h less room v e =
    let size = length-bytes b (i + 1) in
    filled (pieces (λ j. b j ∷ [])) n l (set o i v) (i + 1) (omega arith) (omega arith) (rw e (set-byte b l o i h.written (omega arith)))

-- a float by its pattern
pub fill-pattern : (f : Format) (e : ℕ → Float) {n : ℕ} {l o : List ℕ} {i : ℕ} → FilledSoFar (floats_of f e) n l o i → i < n → width f * n ≤ length l
    → (o' : List ℕ) (v : ℕ) → v ≡ to_bits f (e i) → o' ≡ put o (width f * i) (bytes_of (width f) v) → FilledSoFar (floats_of f e) n l o' (i + 1)
fill-pattern f e {n} {l} {o} {i} h less room o' v same p =
    fill-piece (λ j. float_bytes f (e j)) (width f) (λ j. length-bytes_of (width f) (to_bits f (e j))) h less room o' (rw same at p)

pub fill-float : (f : Format) (e : ℕ → Float) {n : ℕ} {l o : List ℕ} {i : ℕ} → FilledSoFar (floats_of f e) n l o i → i < n → width f * n ≤ length l
    → (o' : List ℕ) (x : Float) → x ≡ e i → o' ≡ put o (width f * i) (float_bytes f x) → FilledSoFar (floats_of f e) n l o' (i + 1)
fill-float f e {n} {l} {o} {i} h less room o' x same p = fill-pattern f e h less room o' (to_bits f x) (ap (to_bits f) same) p
