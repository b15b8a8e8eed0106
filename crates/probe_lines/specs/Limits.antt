-- How long a line of vecprobe may be.
use Rattle.std.specs.Prelude.{ℕ}

-- as many bytes as a line may have before its newline, so that blobs at the limits can be put to it; no reply has more
abbrev pub vecprobe_limit : ℕ
vecprobe_limit = 1100000
