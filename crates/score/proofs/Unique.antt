-- Two outcomes that meet a public function's statement are equal. Assumes nothing.
use Rattle.std.specs.Prelude.{Option, Result}
use mathlib.Core.Path.{◌≡◌, sym, ◌∙◌}
use mathlib.Core.Bool.{Bool}
use mathlib.Core.List.{List}
use Prim.Native.Nat.{ℕ}
use Rattle.answers.specs.Answer.{Answer}
use Rattle.score.specs.declared.Kind.{Kind}
use Rattle.score.specs.declared.Record.{Record}
use Rattle.score.specs.Record.{kind_of, count_of, position_at, record_at, encode_of}
use Rattle.score.specs.Score.{verdict_of, answer_of}
use Rattle.score.specs.Below.{is_count_below, next_not_below}
use Rattle.score.specs.Apart.{difference_of, last_difference_of, first_equal}
use Rattle.answers.specs.declared.ScoreFault.{ScoreFault}

pub check_unique : (s : List ℕ) (a b : Answer) → a ≡ answer_of s → b ≡ answer_of s → a ≡ b
check_unique s a b p q = p ∙ sym q

pub judge_unique : (s : List ℕ) (a b : Result ℕ ScoreFault) → a ≡ verdict_of s → b ≡ verdict_of s → a ≡ b
judge_unique s a b p q = p ∙ sym q

pub count_unique : (s : List ℕ) (a b : ℕ) → a ≡ count_of s → b ≡ count_of s → a ≡ b
count_unique s a b p q = p ∙ sym q

pub position_unique : (s : List ℕ) (i a b : ℕ) → a ≡ position_at s i → b ≡ position_at s i → a ≡ b
position_unique s i a b p q = p ∙ sym q

pub record_at_unique : (s : List ℕ) (i : ℕ) (a b : Record) → a ≡ record_at s i → b ≡ record_at s i → a ≡ b
record_at_unique s i a b p q = p ∙ sym q

pub from_unique : (byte : ℕ) (a b : Kind) → a ≡ kind_of byte → b ≡ kind_of byte → a ≡ b
from_unique byte a b p q = p ∙ sym q

pub encode_unique : (r : Record) (a b : List ℕ) → a ≡ encode_of r → b ≡ encode_of r → a ≡ b
encode_unique r a b p q = p ∙ sym q

pub is_count_below_unique : (s : List ℕ) (k n : ℕ) (a b : Bool) → a ≡ is_count_below s k n → b ≡ is_count_below s k n → a ≡ b
is_count_below_unique s k n a b p q = p ∙ sym q

pub first_difference_unique : (s t : List ℕ) (a b : Option ℕ) → a ≡ difference_of s t → b ≡ difference_of s t → a ≡ b
first_difference_unique s t a b p q = p ∙ sym q

pub last_difference_unique : (s t : List ℕ) (a b : Option ℕ) → a ≡ last_difference_of s t → b ≡ last_difference_of s t → a ≡ b
last_difference_unique s t a b p q = p ∙ sym q

pub next_not_below_unique : (s : List ℕ) (i p a b : ℕ) → a ≡ next_not_below s i p → b ≡ next_not_below s i p → a ≡ b
next_not_below_unique s i p a b e f = e ∙ sym f

pub first_equal_unique : (s r : List ℕ) (a b : ℕ) → a ≡ first_equal s r → b ≡ first_equal s r → a ≡ b
first_equal_unique s r a b p q = p ∙ sym q
