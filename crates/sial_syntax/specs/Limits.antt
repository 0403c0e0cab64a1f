-- The limits of a program.
use Rattle.std.specs.Prelude.{ℕ, ◌^◌}

-- what a number is below: literals, bounds of ranges, constants, elements and scalars
abbrev pub past_numbers : ℕ
past_numbers = 2 ^ 64

-- what the number of a text line is below
abbrev pub past_lines : ℕ
past_lines = 2 ^ 32

-- constants of an input
abbrev pub most_constants : ℕ
most_constants = 256

-- statements of a program
abbrev pub most_statements : ℕ
most_statements = 65535

-- indices, arrays, scalars and procedures, each
abbrev pub most_names : ℕ
most_names = 256

-- `do`, `pardo` and `if` within each other in one body
abbrev pub most_nesting : ℕ
most_nesting = 32

-- calls within each other
abbrev pub most_depth : ℕ
most_depth = 16

-- indices of a block or a declaration
abbrev pub most_rank : ℕ
most_rank = 6

-- indices of a pardo
abbrev pub most_pardo : ℕ
most_pardo = 12

-- bytes of a name
abbrev pub most_name : ℕ
most_name = 64

-- bytes of a printed text
abbrev pub most_text : ℕ
most_text = 1024

-- segments of a kind
abbrev pub most_segments : ℕ
most_segments = 4096

-- positions of a segment, and of a piece
abbrev pub most_length : ℕ
most_length = 1024

-- numbers of a block
abbrev pub most_words : ℕ
most_words = 65536

-- blocks of an array that isn't temp
abbrev pub most_blocks : ℕ
most_blocks = 2 ^ 20

-- blocks of all arrays of one kind that isn't temp
abbrev pub most_together : ℕ
most_together = 2 ^ 24

-- tuples of a pardo's box
abbrev pub most_box : ℕ
most_box = 2 ^ 32
