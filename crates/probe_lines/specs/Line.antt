-- What vecprobe replies to a line. With | for a tab, the lines are
--     root|W|F    narrow|F    widen|F    trunc|F
--     read|H    strict|H    write|K|N|H    conv|K|H    near|D|P|A|B
--     fvecs|N|H    bvecs|N|H    append|N|A|H
-- The crates of each subject have the replies: `Floats` those about one float, `Blobs` those that show a vector, `Write` those
-- that write a blob, `Near` those about a probe and two candidates, `Files` those about a file of vectors, and `Appending` those that
-- append to one. The reply to any other line is X.
use Rattle.std.specs.Prelude.{ℕ, List, [], ◌∷◌}
use Rattle.std.specs.Option.{option_map_or}
use Rattle.lines.specs.Parts.{fields_of}
use Rattle.lines.specs.Fields.{malformed, exactly}
use Rattle.probe_floats.specs.Floats.{float_reply, root_reply}
use Rattle.probe_blobs.specs.Blobs.{read_reply, convert_reply}
use Rattle.probe_write.specs.Write.{write_reply}
use Rattle.probe_near.specs.Near.{near_reply}
use Rattle.probe_vecs.specs.Files.{file_reply}
use Rattle.probe_append.specs.Appending.{append_reply}
use Rattle.probe_verbs.specs.Verbs.{verb_of}
use Rattle.probe_verbs.specs.declared.Verb.{Verb}
use Rattle.probe_verbs.specs.declared.Verb.TheVariants.{Root, Float, Read, Write, Convert, Near, File, Append}

-- the reply to the other fields
unfoldable pub verb_reply : Verb → List (List ℕ) → List ℕ
unfolding exactly float_reply root_reply read_reply write_reply convert_reply near_reply file_reply append_reply
verb_reply Root fields = exactly 2 root_reply fields
verb_reply (Float work) fields = exactly 1 (float_reply work) fields
verb_reply (Read mode) fields = exactly 1 (read_reply mode) fields
verb_reply Write fields = exactly 3 write_reply fields
verb_reply Convert fields = exactly 2 convert_reply fields
verb_reply Near fields = exactly 4 near_reply fields
verb_reply (File kind) fields = exactly 2 (file_reply kind) fields
verb_reply Append fields = exactly 3 append_reply fields

unfoldable pub fields_reply : List (List ℕ) → List ℕ
unfolding verb_of verb_reply
fields_reply [] = malformed
fields_reply (first ∷ fields) = option_map_or (λ verb. verb_reply verb fields) (verb_of first) malformed

unfoldable pub vecprobe_reply : List ℕ → List ℕ
unfolding fields_reply
vecprobe_reply line = fields_reply (fields_of line)
