-- Laws of the replies about floats by their fields: the widths, and a last field that a tab in it makes X.
use Rattle.std.proofs.Common.{◌≡◌, ◌∙◌, refl, sym, ap, List, [], ◌∷◌, ℕ, ◌<◌, ◌≤◌, length, Option, Some, None}
use Rattle.std.specs.Option.{option_map_or}
use lib.Dec.{lit≤}
use Rattle.lines.specs.Parts.{fields_of}
use Rattle.lines.specs.Hex.{pattern_of}
use Rattle.lines.specs.Fields.{exactly, malformed}
use Rattle.lines.proofs.Fields.{exactly-first, exactly-one, exactly-last, several-no_pattern}
use Rattle.probe_floats.specs.Floats.{work_of, float_text, float_reply, root_of, root_reply}
use Rattle.probe_floats.specs.declared.Work.{Work}
use Rattle.probe_floats.specs.declared.Work.TheVariants.{Root32, Root64, Narrow, Widen, Trunc}

-- the widths are those that hexadecimal reads and writes
pub record Wide (w : Work) : Type 0 where
  pub takes : (work_of w).takes ≤ 16
  pub some : 1 ≤ (work_of w).gives
  pub gives : (work_of w).gives ≤ 16

pub wide : (w : Work) → Wide w
wide Root32 = record { takes = lit≤ tt; some = lit≤ tt; gives = lit≤ tt }
wide Root64 = record { takes = lit≤ tt; some = lit≤ tt; gives = lit≤ tt }
wide Narrow = record { takes = lit≤ tt; some = lit≤ tt; gives = lit≤ tt }
wide Widen = record { takes = lit≤ tt; some = lit≤ tt; gives = lit≤ tt }
wide Trunc = record { takes = lit≤ tt; some = lit≤ tt; gives = lit≤ tt }

-- ---- F is a pattern, or none
pub float-none : (w : Work) (s : List ℕ) → pattern_of (work_of w).takes s ≡ None → float_reply w s ≡ malformed
unfolding float_reply
float-none w s e = rw e refl

pub float-some : (w : Work) (s : List ℕ) {n : ℕ} → pattern_of (work_of w).takes s ≡ Some n → float_reply w s ≡ float_text (work_of w).gives ((work_of w).result n)
unfolding float_reply
float-some w s e = rw e refl

-- ---- F is the last field
pub float-last : (w : Work) (s : List ℕ) → exactly 1 (float_reply w) (fields_of s) ≡ float_reply w s
float-last w s = exactly-last (float_reply w) s (λ more. float-none w s (several-no_pattern (work_of w).takes s more))

pub root-one : (rest : List ℕ) → fields_of rest ≡ rest ∷ [] → exactly 2 root_reply (fields_of rest) ≡ malformed
root-one rest e = exactly-one 0 root_reply rest e

-- W names a root, or none
pub root-asked : (rest width field : List ℕ) {o : Option Work} → fields_of rest ≡ width ∷ fields_of field → o ≡ root_of width
    → exactly 2 root_reply (fields_of rest) ≡ option_map_or (λ work. float_reply work field) o malformed
unfolding root_reply
root-asked rest width field e is = exactly-first 1 root_reply rest width field e ∙ exactly-last (root_reply width) field (λ more. none (root_of width) more) ∙ rw is refl
  where
    none : (o : Option Work) → 1 < length (fields_of field) → option_map_or (λ work. float_reply work field) o malformed ≡ malformed
    none None more = refl
    none (Some work) more = float-none work field (several-no_pattern (work_of work).takes field more)
