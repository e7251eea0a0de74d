-- Three theorems met by calls that C makes.
-- A chain: 01's score, on at 0 and off at 100, whose second record is added when sample 100 is reached, in two parts of
-- 100 and 28 samples, over thirteen words of rubbish that gav_fresh fills. Both numbers are 0, and one gav_render of
-- the whole score is left.
-- Edits: the note alone rendered, its off added, and taken away again. The three numbers are 0, and one gav_render of
-- the note alone is left.
-- A page: two offs at 0, of which the first is removed and inserted, after a gav_render of 8,192 samples. Its word says
-- 20 bytes and 4,096 samples, and what it leaves is what two calls of gav_rerender leave, or two of gav_edit. Assumes
-- nothing.
use Rattle.std.specs.Prelude.{Some}
use mathlib.Core.Path.{◌≡◌, refl, sym, ap, ◌∙◌}
use mathlib.Core.List.{List, [], ◌∷◌, ◌++◌}
use Prim.Native.Nat.{ℕ, ◌+◌, ◌*◌}
use native.Mathlib.Omega.{arith}
use lib.Dec.{T}
use lib.ListN.{replicate}
use lib.Ieee.{binary64, fits}
use lib.Ieee.Bits.{of_bits-fits}
use Rattle.sections.specs.Outcome.{Lent, Outcome}
use Rattle.shelf.specs.Shelf.{entry_words}
use Rattle.floats.specs.Double.{half}
use Rattle.demands.proofs.ChainExamples.{trembling, trembling_ok, begins, begins-accepted, ends_at, played, room, on_time}
use Rattle.demands.proofs.PagesExample.{two, swap, swaps, swap_begins, swap-whole, swap_once, lent_ones, paper, paper-long}
use Rattle.demands.specs.Demand3.{Taken}
use Rattle.demands.specs.Pages.{scores_of, once_paged, singles_of}
use Rattle.page.specs.Page.{new_score_of, Rewritten}
use Rattle.state.specs.declared.Settings.{Settings}
use Rattle.ffi.specs.declared.Asked.{Asked}
use Rattle.ffi.specs.Packed.{packed_page}
use Rattle.ffi.specs.Ffi.{Continued, asks, shape_of, manner_of, choice_of, edit_for}
use Rattle.ffi_demands.specs.WordsChain.{words_chain, AllZero, OneFfiRender}
use Rattle.ffi_demands.specs.WordsDemand3.{ffi_left, Zero}
use Rattle.ffi_demands.specs.WordsEdits.{words_edits_from, words_edits, LastFfiRender}
use Rattle.ffi_demands.specs.WordsPages.{words_pages_from, FfiAtOnce, FfiOneAtATime, FfiPagesOfOne}
use Rattle.ffi_demands.proofs.FfiChain.{desk_chain, desk_chain-done}
use Rattle.ffi_demands.proofs.FfiEdits.{desk_edits, desk_edits_done}
use Rattle.ffi_demands.proofs.FfiPages.{words_pages}

-- code 1 is a square wave, which reads no duty, and the LFO's too; 1 is joined
abbrev pub square : Asked
square = asks 8000 1 half trembling.adsr.attack trembling.adsr.decay trembling.adsr.sustain trembling.adsr.release 1 half trembling.lfo.frequency trembling.lfo.depth 1

known : choice_of square ≡ Some trembling
unfolding shape_of manner_of choice_of
known = refl

-- ---- a chain
-- thirteen words of rubbish
abbrev pub rubbish : List ℕ
rubbish = replicate entry_words 7

abbrev pub played_in_words : Continued (List ℕ)
played_in_words = words_chain square rubbish (played 100)

pub record OnTimeInWords : Type 0 where
  pub zeros : AllZero played_in_words.result
  pub one-render : OneFfiRender square (played 100) room played_in_words

sustain_fits : T (fits binary64 trembling.adsr.sustain)
sustain_fits = of_bits-fits binary64 0x3fe0_0000_0000_0000

all_zero : AllZero played_in_words.result
all_zero = (desk_chain-done square sustain_fits rubbish refl trembling known trembling_ok (played 100) on_time.accepted on_time.growing (omega arith)).zero_if on_time.none_below

-- the buffers of `on_time`, of 128 samples
fit : Lent room
fit = record { short = omega arith; fits = refl; magnitudes-fit = refl; numbers_fit = refl }

pub on_time_in_words : OnTimeInWords
on_time_in_words =
    record { zeros = all_zero; one-render = desk_chain square sustain_fits rubbish refl _ _ on_time.growing all_zero room fit refl }

-- ---- an off added, and taken away again
abbrev pub edited_in_words : Outcome (List ℕ)
edited_in_words = words_edits square begins ((begins ++ ends_at 100) ∷ begins ∷ []) room

pub record EditedInWords : Type 0 where
  pub zeros : AllZero edited_in_words.result
  pub last-render : LastFfiRender square begins ((begins ++ ends_at 100) ∷ begins ∷ []) 128 room edited_in_words

edits_zero : AllZero edited_in_words.result
edits_zero =
    let one : Taken begins = record { records = 1; accepted = begins-accepted } in
    let two : Taken (begins ++ ends_at 100) = record { records = on_time.accepted.1.0.0; accepted = on_time.accepted.1.0.1 } in
    desk_edits_done square sustain_fits begins _ _ trembling known trembling_ok fit one (two, (one, tt))

pub edits_in-words : EditedInWords
edits_in-words = record { zeros = edits_zero; last-render = desk_edits square sustain_fits begins _ _ edits_zero (record { buffers = room; lent = fit; long = refl }) }

-- ---- a page of two edits
abbrev pub swapped_in_words : Rewritten ℕ
swapped_in_words = edit_for (choice_of square) two swap (ffi_left square two lent_ones).left paper

pub record SwappedInWords : Type 0 where
  pub word : swapped_in_words.result ≡ 4096 * 4294967296 + 20 * 256
  pub at_once : FfiAtOnce square two swap 8192 paper swapped_in_words
  pub one-at_a_time : FfiOneAtATime two swap (words_edits_from square two (scores_of two swap) (ffi_left square two lent_ones).left) swapped_in_words
  pub pages_of_one : FfiPagesOfOne square two swap 8192 (words_pages_from square two (singles_of swap) (ffi_left square two lent_ones).left paper) swapped_in_words

render-zero : Zero (ffi_left square two lent_ones).result
render-zero = (desk_edits_done square sustain_fits two [] lent_ones.buffers trembling known trembling_ok lent_ones.lent swap_begins.old_taken tt).0

swap-zero : Zero swapped_in_words.result
swap-zero = words_pages.zero-whenever square sustain_fits two swap paper 8192 lent_ones render-zero swap-whole paper-long

pub swapped_in_words_lem : SwappedInWords
unfolding packed_page
swapped_in_words_lem =
    let once = words_pages.at_once square sustain_fits two swap paper 8192 lent_ones render-zero swap-zero in
    let same : trembling ≡ once.settings = known-settings (sym known ∙ once.known) in
    record {
      word = once.word ∙ ap (λ (g : Settings). packed_page (once_paged g two (new_score_of two swap) 8192)) (sym same) ∙ ap (λ (s : List ℕ). packed_page (once_paged trembling two s 8192)) swaps ∙ ap packed_page swap_once;
      at_once = once;
      one-at_a_time = words_pages.one-at_a_time square sustain_fits two swap paper 8192 lent_ones render-zero swap-zero;
      pages_of_one = words_pages.pages_of_one square sustain_fits two swap paper 8192 lent_ones render-zero swap-zero;
    }
  where
    known-settings : {g h : Settings} → Some g ≡ Some h → g ≡ h
    known-settings e = cc
