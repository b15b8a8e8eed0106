-- How long a line of vecdist may be, and how long a reply can get.
use Rattle.std.specs.Prelude.{ℕ}

-- as many bytes as a line may have before its newline
abbrev pub vecdist_limit : ℕ
vecdist_limit = 32768

-- room for any reply: R and a tab, a number of at most twenty digits and a tab, a letter, and a tab and a number
abbrev pub vecdist_room : ℕ
vecdist_room = 45
