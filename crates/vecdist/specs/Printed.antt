-- What vecdist prints.
use Rattle.std.specs.Prelude.{ℕ, List}
use Rattle.lines.specs.Printed.{limited, printed_of}
use Rattle.vecdist_lines.specs.Line.{vecdist_reply}
use Rattle.vecdist_lines.specs.Limits.{vecdist_limit}

-- the reply to a line: X where it is over the limit
abbrev pub reply_to : List ℕ → List ℕ
reply_to line = limited vecdist_limit vecdist_reply line

-- for an input
abbrev pub printed : List ℕ → List ℕ
printed input = printed_of reply_to input
