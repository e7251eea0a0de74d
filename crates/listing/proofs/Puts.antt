-- Texts put into a buffer one after the other. Assumes nothing.
use Rattle.std.specs.Prelude.{Err, Ok}
use mathlib.Core.Path.{◌≡◌, refl, sym, ap, subst, ◌∙◌}
use mathlib.Core.List.{List, [], ◌++◌, append_assoc}
use Prim.Native.Nat.{ℕ, ◌+◌, ◌≤◌, ◌<◌}
use native.Mathlib.Numerals.{add-one}
use native.Mathlib.Omega.{arith}
use lib.ListN.{length, take, drop, length-append}
use lib.Seq.{paste-zero, take_at, drop_at, drop-drop, length-take-le}
use borrow.Author.Tests.{lt-ltb, le-ltb}
use Rattle.answers.specs.declared.ScoreFault.{ScoreFault}
use Rattle.score.specs.declared.Record.{Record}
use Rattle.score.specs.Record.{count_of, record_at}
use Rattle.score.specs.Score.{verdict_of}
use Rattle.score.proofs.Verdicts.{accepted-first, faulty-first}
use Rattle.score.proofs.Cuts.{accepted-count}
use Rattle.listing.specs.Listing.{line_of, lines_to, accepted_text, refused_text, listing_of}
use Rattle.listing.specs.Outcome.{Listed}
use Rattle.listing.specs.declared.Text.{Text}
use Rattle.listing.specs.Inner.{HasRoom, Put}

-- an empty text changes nothing
pub put-none : (t : Text) → HasRoom 0 t → Put [] t t
put-none t h =
    record {
      same_buffer = refl;
      room = h;
      same_length = refl;
      moved = omega arith;
      bytes = paste-zero t.out.now t.len [];
    }

-- a text and then another are the two joined
pub put_both : {a b : List ℕ} {t u v : Text} → Put a t u → Put b u v → Put (a ++ b) t v
put_both {a} {b} {t} {u} {v} p q =
    let x = t.out.now in
    let y = u.out.now in
    let at = t.len in
    let m = u.len in
    let size : length (a ++ b) ≡ length a + length b = length-append a b in
    let room-a : at + length a ≤ length x = p.room in
    let room-b : m + length b ≤ length y = q.room in
    let same-y : length y ≡ length x = p.same_length in
    let same-z : length v.out.now ≡ length y = q.same_length in
    let moved-a : m ≡ at + length a = p.moved in
    let moved-b : v.len ≡ m + length b = q.moved in
    let front : length (take at x ++ a) ≡ m = rw (length-append (take at x) a, length-take-le at x (omega arith)) (sym moved-a) in
    let y-is : y ≡ (take at x ++ a) ++ drop (at + length a) x = p.bytes in
    let low : take m y ≡ take at x ++ a = ap (take m) y-is ∙ take_at (take at x ++ a) (drop (at + length a) x) m front in
    let rest : drop m y ≡ drop (at + length a) x = ap (drop m) y-is ∙ drop_at (take at x ++ a) (drop (at + length a) x) m front in
    let far : at + length a + length b ≡ at + length (a ++ b) = omega arith in
    let high : drop (m + length b) y ≡ drop (at + length (a ++ b)) x =
    sym (drop-drop (length b) m y) ∙ ap (drop (length b)) rest ∙ drop-drop (length b) (at + length a) x ∙ ap (λ (k : ℕ). drop k x) far in
    record {
      same_buffer = q.same_buffer ∙ p.same_buffer;
      room = omega arith;
      same_length = omega arith;
      moved = omega arith;
      bytes = q.bytes ∙ rw (low, high, append_assoc (take at x) a b) refl;
    }

-- the listing by the verdict
pub listing_accepted : (s : List ℕ) (n : ℕ) → verdict_of s ≡ Ok n → listing_of s ≡ accepted_text s n
listing_accepted s n e = accepted-first s n e refused_text (accepted_text s (count_of s)) ∙ ap (accepted_text s) (sym (accepted-count s n e))

pub listing_refused : (s : List ℕ) (fault : ScoreFault) → verdict_of s ≡ Err fault → listing_of s ≡ refused_text fault
listing_refused s fault e = faulty-first s fault e refused_text (accepted_text s (count_of s))

-- the listing at the front of a buffer that is long enough is the outcome of the call
pub put-listed : (s text : List ℕ) (t u : Text) → t.len ≡ 0 → 102413 ≤ length t.out.now → listing_of s ≡ text → Put text t u → Listed s t.out.now u.out.now u.len
put-listed s text t u z h e p =
    let x = t.out.now in
    let moved : u.len ≡ length text = omega (arith, p.moved) in
    let bytes : u.out.now ≡ take 0 x ++ text ++ drop (0 + length text) x = rw z at p.bytes in
    let from : 0 + length text ≡ length text = omega arith in
    record {
      inside = omega (arith, p.room, p.same_length);
      counted = rw (le-ltb (length x) 102413 h, e) moved;
      written = rw (le-ltb (length x) 102413 h, e) (bytes ∙ ap (λ (k : ℕ). text ++ drop k x) from);
    }

-- a buffer that is too short is as it came
pub put_nothing : (s x : List ℕ) → length x < 102413 → Listed s x x 0
put_nothing s x h = record { inside = omega arith; counted = rw (lt-ltb (length x) 102413 h); written = rw (lt-ltb (length x) 102413 h) }

-- one more line
pub put_next : (before : List ℕ) (s : List ℕ) (i : ℕ) (g : Record) (t u v : Text) → g ≡ record_at s i → Put (before ++ lines_to s i) t u → Put (line_of g) u v → Put (before ++ lines_to s (i + 1)) t v
unfolding lines_to
put_next before s i g t u v e p q =
    rw (add-one i, ← append_assoc before (lines_to s i) (line_of (record_at s i))) (put_both p (subst (λ (r : Record). Put (line_of r) u v) e q))
