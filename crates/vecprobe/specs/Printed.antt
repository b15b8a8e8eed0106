-- What vecprobe prints.
use Rattle.std.specs.Prelude.{ℕ, List}
use Rattle.lines.specs.Printed.{limited, printed_of}
use Rattle.probe_lines.specs.Line.{vecprobe_reply}
use Rattle.probe_lines.specs.Limits.{vecprobe_limit}

-- the reply to a line: X where it is over the limit
abbrev pub reply_to : List ℕ → List ℕ
reply_to line = limited vecprobe_limit vecprobe_reply line

-- for an input
abbrev pub printed : List ℕ → List ℕ
printed input = printed_of reply_to input
