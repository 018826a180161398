-- Classes of bytes. Letters and digits are those of ASCII.
use Rattle.std.specs.Prelude.{ℕ, Bool, ◌==◌, ◌||◌}
use Rattle.std.specs.Char.{is_ascii_alphanumeric}

-- the byte that ends a line
abbrev pub line_feed : ℕ
line_feed = 10

-- the byte that begins a comment
abbrev pub hash : ℕ
hash = 35

-- space, tab, carriage return and line feed
abbrev pub is_white : ℕ → Bool
is_white b = b == 32 || b == 9 || b == 13 || b == line_feed

-- what a name goes on with: letters, digits and `_`
abbrev pub is_name_byte : ℕ → Bool
is_name_byte b = is_ascii_alphanumeric b || b == 95
