-- No listing is empty, and none has 2^32 bytes: a record's line has at most 69 bytes, and a score has at most 4,096
-- records. Assumes nothing.
use Rattle.std.specs.Prelude.{Err}
use mathlib.Core.List.{List}
use Prim.Native.Nat.{ℕ, zero, suc, ◌*◌, ◌≤◌, ◌<◌}
use native.Mathlib.Omega.{arith}
use lib.ListN.{length, length-append}
use Rattle.answers.specs.declared.Refusal.TheVariants.{Score}
use Rattle.answers.specs.Numbers.{numbers_of}
use Rattle.answers.proofs.Order.{first_holds}
use Rattle.listing.specs.Listing.{kind_word, line_of, lines_to, accepted_text, refused_text, listing_of}
use Rattle.listing.proofs.Digits.{twenty_digits}
use Rattle.score.specs.declared.Kind.{Kind}
use Rattle.score.specs.declared.Kind.TheVariants.{On, Off, Reset}
use Rattle.score.specs.declared.Record.{Record}
use Rattle.score.specs.Record.{count_of, record_at}
use Rattle.score.specs.Score.{faults_of}
use Rattle.score.proofs.Verdicts.{accepted_all, none-accepted}

kind_length : (k : Kind) → length (kind_word k) ≤ 7
kind_length On = omega arith
kind_length Off = omega arith
kind_length Reset = omega arith

line-length : (r : Record) → length (line_of r) ≤ 69
line-length r = simp length-append (omega (arith, twenty_digits r.position, kind_length r.kind, twenty_digits r.note, twenty_digits r.velocity))

lines_length : (s : List ℕ) (n : ℕ) → length (lines_to s n) ≤ n * 69
unfolding lines_to
lines_length s zero = omega arith
lines_length s (suc n) = rw length-append (omega (arith, lines_length s n, line-length (record_at s n)))

pub listing_fits : (s : List ℕ) → length (listing_of s) < 4294967296
listing_fits s =
    first_holds (λ (text : List ℕ). length text < 4294967296) (faults_of s) refused_text (accepted_text s (count_of s))
    (λ f l. let m = numbers_of (Err (Score f)) in simp length-append (omega (arith, twenty_digits m.number, twenty_digits m.place)))
    (λ none. simp length-append (omega (arith, twenty_digits (count_of s), lines_length s (count_of s), (accepted_all s (count_of s) (none-accepted s none)).few)))

pub listing_starts : (s : List ℕ) → 0 < length (listing_of s)
listing_starts s = first_holds (λ (text : List ℕ). 0 < length text) (faults_of s) refused_text (accepted_text s (count_of s)) (λ f l. omega arith) (λ none. omega arith)
