-- From sparse to dense: zeros, then the entries in stored order, so that the last of equal indices wins.
use Rattle.std.specs.Prelude.{ℕ, zero, suc, ◌*◌, List, take, drop, replicate}
use Rattle.std.specs.Float.{Format, binary32, binary64}
use Rattle.little_endian.specs.Bytes.{put, width, float_bytes, f32_at}
use Rattle.vector_types.specs.Layout.{index_at}
use Rattle.bodies.specs.Entries.{stored_count}

-- the value of entry j: in f32 its bytes are copied, in f64 it is widened
abbrev pub entry_bytes : Format → List ℕ → ℕ → List ℕ
entry_bytes binary32 body j = take 4 (drop (4 * j) body)
entry_bytes binary64 body j = float_bytes binary64 (f32_at body (4 * j))

-- a dense body of d elements after the first n entries
unfoldable pub spread : Format → ℕ → List ℕ → ℕ → List ℕ
spread f d body zero = replicate (width f * d) 0
spread f d body (suc j) = put (spread f d body j) (width f * index_at body (stored_count body) j) (entry_bytes f body j)

abbrev pub spread_body : Format → ℕ → List ℕ → List ℕ
spread_body f d body = spread f d body (stored_count body)
