-- Names of bytes (ASCII, RFC 20).
use Rattle.std.specs.Prelude.{ℕ, Bool, ◌||◌, ◌==◌}

abbrev pub tab : ℕ
tab = 9

abbrev pub line_feed : ℕ
line_feed = 10

abbrev pub carriage_return : ℕ
carriage_return = 13

abbrev pub space : ℕ
space = 32

abbrev pub quote : ℕ
quote = 34

abbrev pub apostrophe : ℕ
apostrophe = 39

abbrev pub opening_parenthesis : ℕ
opening_parenthesis = 40

abbrev pub closing_parenthesis : ℕ
closing_parenthesis = 41

abbrev pub asterisk : ℕ
asterisk = 42

abbrev pub comma : ℕ
comma = 44

abbrev pub slash : ℕ
slash = 47

abbrev pub digit_0 : ℕ
digit_0 = 48

abbrev pub digit_9 : ℕ
digit_9 = 57

abbrev pub colon : ℕ
colon = 58

abbrev pub semicolon : ℕ
semicolon = 59

abbrev pub less_than : ℕ
less_than = 60

abbrev pub equals_sign : ℕ
equals_sign = 61

abbrev pub greater_than : ℕ
greater_than = 62

abbrev pub question_mark : ℕ
question_mark = 63

abbrev pub upper_a : ℕ
upper_a = 65

abbrev pub upper_f : ℕ
upper_f = 70

abbrev pub upper_z : ℕ
upper_z = 90

abbrev pub backslash : ℕ
backslash = 92

abbrev pub underscore : ℕ
underscore = 95

abbrev pub lower_a : ℕ
lower_a = 97

abbrev pub lower_f : ℕ
lower_f = 102

abbrev pub lower_z : ℕ
lower_z = 122

abbrev pub tilde : ℕ
tilde = 126

-- a blank: a space or a tab (WSP in RFC 5234, appendix B.1)
abbrev pub is_blank : ℕ → Bool
is_blank b = b == space || b == tab
