-- What a host reads in a word is what the call answered: number, place and count; of a page that is done, the bytes of
-- the new score in the place. Assumes nothing.
use Rattle.std.specs.Prelude.{Err, None, Ok, Option, Some}
use mathlib.Core.Path.{◌≡◌, refl, sym, ap, ◌∙◌}
use mathlib.Core.List.{List}
use Prim.Native.Nat.{ℕ, ◌+◌, ◌*◌, ◌/◌, ◌%◌, ◌<◌}
use native.Mathlib.Omega.{arith}
use lib.ListN.{length}
use lib.Ieee.{Float}
use Rattle.sections.specs.Outcome.{Buffers}
use Rattle.answers.specs.Answer.{Answer}
use Rattle.answers.specs.declared.Refusal.TheVariants.{Setting, Size, Argument}
use Rattle.answers.specs.declared.Numbers.{Numbers}
use Rattle.answers.specs.Numbers.{numbers_of}
use Rattle.answers.proofs.Order.{first-through}
use Rattle.listing.specs.Listing.{listing_of}
use Rattle.page.specs.declared.Paged.{Paged}
use Rattle.page.specs.Page.{edits_in, edit_of}
use Rattle.render.specs.Calls.{render_of, continue_refusals}
use Rattle.rerender.specs.Rerender.{rerender_of}
use Rattle.score.specs.Score.{answer_of}
use Rattle.state.specs.declared.Settings.{Settings}
use Rattle.ffi.specs.Packed.{word_of, packed_of, paged_numbers, packed_page, numbers_in}
use Rattle.ffi.specs.Ffi.{Continued, check_of, answer_in, single_of, rendered, rerendered, edited, is_given_in, made_in, kept_in, continue_in, continue_for}
use Rattle.ffi.proofs.Lines.{listing_fits}
use Rattle.ffi.proofs.Fits.{Fitting, Fits, done-fits, refused-fits, check-fits, single-fits, render-fits, rerender-fits, edit-fits, edit-done-fits, continue_says, continue_fits}

-- number, place and count packed into a word, and each read out of it again
module _ (n p c : ℕ) (a : n < 256) (b : p < 16777216) (d : c < 4294967296) where
  abbrev w : ℕ
  w = n + 256 * (p % 16777216) + 4294967296 * (c % 4294967296)

  number_back : w % 256 ≡ n
  number_back = omega arith

  place_back : w / 256 % 16777216 ≡ p
  place_back = omega arith

  count_back : w / 4294967296 ≡ c
  count_back = omega arith

numbers_back : (m : Numbers) → Fitting m → numbers_in (word_of m) ≡ m
numbers_back m f =
    let n = m.number in
    let p = m.place in
    let c = m.count in
    let x = f.number_fits in
    let y = f.place-fits in
    let z = f.count_fits in
    rw (number_back n p c x y z, place_back n p c x y z, count_back n p c x y z) refl

pub read_back : (a : Answer) → Fits a → numbers_in (packed_of a) ≡ numbers_of a
unfolding packed_of
read_back a f = numbers_back (numbers_of a) f

-- ---- call by call
pub check-reads : (s : List ℕ) → numbers_in (check_of s) ≡ numbers_of (answer_of s)
check-reads s = read_back (answer_of s) (check-fits s)

pub sample-reads : (code : ℕ) (phase dt duty : Float) → numbers_in (packed_of (answer_in (single_of code phase dt duty))) ≡ numbers_of (answer_in (single_of code phase dt duty))
sample-reads code phase dt duty = read_back (answer_in (single_of code phase dt duty)) (single-fits code phase dt duty)

-- an unknown code, whatever the other arguments are
pub unknown_reads : numbers_in (packed_of (Err Setting)) ≡ numbers_of (Err Setting)
unknown_reads = read_back (Err Setting) (refused-fits Setting (omega arith))

module _ (g : Settings) where
  pub render-reads : (s : List ℕ) (b : Buffers) → numbers_in (rendered (render_of g s b)).result ≡ numbers_of (render_of g s b).result.answer
  render-reads s b = read_back (render_of g s b).result.answer (render-fits g s b)

  pub rerender-reads : (old new : List ℕ) (b : Buffers) → numbers_in (rerendered (rerender_of g old new b)).result ≡ numbers_of (rerender_of g old new b).result
  rerender-reads old new b = read_back (rerender_of g old new b).result (rerender-fits g old new b)

  module _ (old es : List ℕ) (b : Buffers) (space : List ℕ) where
    abbrev page : Paged
    page = (edit_of g old es b space).result

    -- a page of fewer than 2^24 edits; 2^24 edits are 235 million bytes
    pub edit-reads : edits_in es < 16777216 → numbers_in (edited (edit_of g old es b space)).result ≡ paged_numbers page.answer page.bytes
    unfolding packed_page
    edit-reads h = numbers_back (paged_numbers page.answer page.bytes) (edit-fits g old es b space h)

    -- of any number of edits, where it is done
    pub edit-done-reads : (n : ℕ) → page.answer ≡ Ok n → numbers_in (edited (edit_of g old es b space)).result ≡ record { number = 0; place = page.bytes; count = n }
    unfolding packed_page
    edit-done-reads n e = numbers_back (paged_numbers page.answer page.bytes) (edit-done-fits g old es b space n e) ∙ ap (λ (a : Answer). paged_numbers a page.bytes) e

-- a continuing call, also from words that are no state and under unknown settings
pub continue_says_lem : (c : Option Settings) (s ws : List ℕ) (p : ℕ) (part : List Float) → (continue_for c s ws p part).result ≡ packed_of (continue_says c s ws p (length part))
unfolding continue_in
continue_says_lem (Some g) s ws p part =
    let refusals = continue_refusals g s (is_given_in s p ws) p (length part) in
    first-through (λ (o : Continued ℕ). o.result) refusals (kept_in part ws) (made_in g s ws p (length part)) ∙ sym (first-through packed_of refusals Err (Ok (length part)))
continue_says_lem None s ws p part = refl

pub continue_reads : (c : Option Settings) (s ws : List ℕ) (p : ℕ) (part : List Float) → numbers_in (continue_for c s ws p part).result ≡ numbers_of (continue_says c s ws p (length part))
continue_reads c s ws p part = ap numbers_in (continue_says_lem c s ws p part) ∙ read_back (continue_says c s ws p (length part)) (continue_fits c s ws p (length part))

pub fresh-reads : (numbers_in (packed_of (Ok 0)) ≡ numbers_of (Ok 0)) × (numbers_in (packed_of (Err Argument)) ≡ numbers_of (Err Argument))
fresh-reads = (read_back (Ok 0) (done-fits 0 (omega arith)), read_back (Err Argument) (refused-fits Argument (omega arith)))

pub list-reads : (s : List ℕ) → (numbers_in (packed_of (Ok (length (listing_of s)))) ≡ numbers_of (Ok (length (listing_of s)))) × (numbers_in (packed_of (Err Size)) ≡ numbers_of (Err Size))
list-reads s = (read_back (Ok (length (listing_of s))) (done-fits (length (listing_of s)) (listing_fits s)), read_back (Err Size) (refused-fits Size (omega arith)))
