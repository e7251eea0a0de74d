-- What the lister prints, byte by byte. 01, "The score": "Lister program: it reads a score from standard input. A
-- reset's line ends `reset 0 0`; a refused score prints only one line with `refused`, number and place, as
-- `refused 2 0`." 01's example prints `records 2`, `0 on 69 127` and `100 off 69 0`.
-- A text is a list of ASCII codes, and every line ends with a newline. Definitions only.
use Rattle.std.specs.Prelude.{cond, List, [], ◌∷◌, ◌++◌, ℕ, zero, suc, ◌+◌, ◌/◌, ◌%◌, ltb, Err}
use Rattle.answers.specs.declared.Refusal.TheVariants.{Score}
use Rattle.answers.specs.declared.ScoreFault.{ScoreFault}
use Rattle.answers.specs.Numbers.{numbers_of}
use Rattle.answers.specs.Order.{first_of}
use Rattle.score.specs.declared.Kind.{Kind}
use Rattle.score.specs.declared.Kind.TheVariants.{On, Off, Reset}
use Rattle.score.specs.declared.Record.{Record}
use Rattle.score.specs.Record.{count_of, record_at}
use Rattle.score.specs.Score.{faults_of}

-- ---- words
abbrev pub space : List ℕ
space = 32 ∷ []

abbrev pub newline : List ℕ
newline = 10 ∷ []

-- "records "
abbrev pub records_word : List ℕ
records_word = 114 ∷ 101 ∷ 99 ∷ 111 ∷ 114 ∷ 100 ∷ 115 ∷ 32 ∷ []

-- "refused "
abbrev pub refused_word : List ℕ
refused_word = 114 ∷ 101 ∷ 102 ∷ 117 ∷ 115 ∷ 101 ∷ 100 ∷ 32 ∷ []

-- " on ", " off ", " reset "
abbrev pub kind_word : Kind → List ℕ
kind_word On = 32 ∷ 111 ∷ 110 ∷ 32 ∷ []
kind_word Off = 32 ∷ 111 ∷ 102 ∷ 102 ∷ 32 ∷ []
kind_word Reset = 32 ∷ 114 ∷ 101 ∷ 115 ∷ 101 ∷ 116 ∷ 32 ∷ []

-- ---- numbers
-- the decimal digits of n, the most significant first, if n has at most k
unfoldable pub spelt : ℕ → ℕ → List ℕ
spelt zero n = []
spelt (suc k) n = cond (ltb n 10) ((48 + n) ∷ []) (spelt k (n / 10) ++ ((48 + n % 10) ∷ []))

-- 20 digits suffice for every u64
abbrev pub decimal_of : ℕ → List ℕ
decimal_of n = spelt 20 n

-- ---- lines
abbrev pub line_of : Record → List ℕ
line_of r = decimal_of r.position ++ kind_word r.kind ++ decimal_of r.note ++ space ++ decimal_of r.velocity ++ newline

-- a line for each of the first n records
unfoldable pub lines_to : List ℕ → ℕ → List ℕ
lines_to s zero = []
lines_to s (suc n) = lines_to s n ++ line_of (record_at s n)

abbrev pub accepted_text : List ℕ → ℕ → List ℕ
accepted_text s n = records_word ++ decimal_of n ++ newline ++ lines_to s n

abbrev pub refused_text : ScoreFault → List ℕ
refused_text fault =
    let numbers = numbers_of (Err (Score fault)) in
    refused_word ++ decimal_of numbers.number ++ space ++ decimal_of numbers.place ++ newline

-- the listing of a score: its first fault, or its records
abbrev pub listing_of : List ℕ → List ℕ
listing_of s = first_of (faults_of s) refused_text (accepted_text s (count_of s))
