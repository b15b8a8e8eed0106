-- A text written byte by byte from the front: the state of a loop that does so, its start, a turn of it and its end.
use mathlib.Core.Path.{◌≡◌, refl, sym, ap, ◌∙◌}
use mathlib.Core.List.{List, [], ◌∷◌, ◌++◌, append_assoc, append-nil}
use Prim.Native.Nat.{ℕ, ◌+◌, ◌<◌, ◌≤◌}
use native.Mathlib.Omega.{arith}
use lib.ListN.{length, set, length-append, length-set}
use Rattle.promises.specs.Onto.{onto}
use Rattle.promises.specs.Puts.{Puts}
use Rattle.promises.proofs.Onto.{onto-put}

-- the first i bytes of the text w are written over l, which is o then, and rest is to come
pub record Writing (w l o : List ℕ) (i : ℕ) (rest : List ℕ) : Type 0 where
  pub done : List ℕ
  pub parts : w ≡ done ++ rest
  pub size : i ≡ length done
  pub left : o ≡ onto done l
  pub long : length o ≡ length l

pub write-none : (w l : List ℕ) → Writing w l l 0 w
write-none w l = record { done = []; parts = refl; size = refl; left = refl; long = refl }

pub write-next : {w l o t rest : List ℕ} {b i j : ℕ} → Writing w l o i t → t ≡ b ∷ rest → length w ≤ length l → j ≡ i + 1 → Writing w l (set o i b) j rest
write-next {w} {l} {o} {t} {rest} {b} {i} {j} h next fits e =
    let parts : w ≡ h.done ++ (b ∷ rest) = h.parts ∙ rw next in
    let room : i < length l = omega (arith, h.size, simp length-append at (ap length parts)) in
    let put = onto-put h.done l o b i h.size h.left room in
    record {
      done = h.done ++ (b ∷ []);
      parts = parts ∙ sym (append_assoc h.done (b ∷ []) rest);
      size = e ∙ put.0;
      left = put.1;
      long = length-set o i b ∙ h.long;
    }

pub write-all : {w l o t : List ℕ} {i : ℕ} → Writing w l o i t → t ≡ [] → Puts w l i o
write-all {w} {l} {o} {t} {i} h none =
    let whole : w ≡ h.done = h.parts ∙ rw (none, append-nil) in
    rw whole (record { size = h.size; left = h.left })
