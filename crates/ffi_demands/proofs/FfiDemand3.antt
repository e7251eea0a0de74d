-- The claim of specs/WordsDemand3.antt: a gav_render whose number is 0 had settings that are known and in their domain
-- and an accepted score, and then the calls are those of `demands`, each answer packed. Assumes nothing.
use Rattle.std.specs.Prelude.{Ok, Option, Some}
use mathlib.Core.Path.{◌≡◌, sym, ap, ◌∙◌}
use mathlib.Core.Bool.{true, false}
use mathlib.Core.List.{List}
use Prim.Native.Nat.{ℕ, ◌-◌, ◌*◌, ◌/◌, min, ◌<◌}
use lib.Dec.{T}
use lib.Ieee.{binary64, fits}
use Rattle.sections.specs.Outcome.{Buffers, samples_in, Lent, before, onward, leaves}
use Rattle.sections.proofs.Room.{in_room}
use Rattle.answers.specs.declared.Refusal.TheVariants.{Setting}
use Rattle.answers.specs.Numbers.{numbers_of}
use Rattle.score.specs.Record.{count_of}
use Rattle.score.specs.Apart.{difference_of}
use Rattle.shelf.specs.Shelf.{section_size, entries_for, is_entry, entry_at}
use Rattle.state.specs.declared.Settings.{Settings}
use Rattle.state.specs.Settings.{settings_ok}
use Rattle.render.specs.Calls.{render_of}
use Rattle.rerender.specs.Rerender.{rerender_of}
use Rattle.demands.specs.Demand3.{Taken, Edit, BuffersOf, left_in, FromSection}
use Rattle.demands.proofs.Honest.{render-passed}
use Rattle.demands.proofs.Demand3.{demand_3_holds}
use Rattle.ffi.specs.declared.Asked.{Asked}
use Rattle.ffi.specs.Packed.{packed_of}
use Rattle.ffi.specs.Ffi.{choice_of, render_for, rerendered, rerender_for}
use Rattle.ffi.proofs.ReadBack.{rerender-reads}
use Rattle.ffi_demands.specs.WordsDemand3.{ffi_left, Zero, FfiCounted, FfiRemade, FfiStartRemade, FfiEntriesRemade, FfiToTheEnd, WordsDemand3}
use Rattle.ffi_demands.proofs.Zero.{refused-not-zero, zero-done}
use Rattle.ffi_demands.proofs.Codes.{is_known, sustain_fits}

-- ---- what is true of a gav_render whose number is 0
pub record Good (a : Asked) (s : List ℕ) (b : Buffers) : Type 0 where
  pub settings : Settings
  pub known : choice_of a ≡ Some settings
  pub in_domain : settings_ok settings ≡ true
  pub taken : Taken s
  pub lent : Lent b

pub zero_good : (a : Asked) (s : List ℕ) (b : Buffers) → Zero (render_for (choice_of a) s b).result → Good a s b
zero_good a s b z =
    let q = is_known a (λ e. refused-not-zero Setting (rw e at z)) in
    let g = q.settings in
    let y : Zero (packed_of (render_of g s b).result.answer) = rw q.known at z in
    let d = zero-done (render_of g s b).result.answer y in
    let p = render-passed g s b d.0 d.1 in
    record { settings = g; known = q.known; in_domain = p.settings; taken = record { records = count_of s; accepted = p.accepted }; lent = in_room b p.sized }

-- ---- a gav_render under known settings leaves what a render leaves
module _ (a : Asked) (g : Settings) (is : choice_of a ≡ Some g) (s : List ℕ) where
  pub desk_left : {n : ℕ} (r : BuffersOf n) → (ffi_left a s r).left ≡ (left_in g s r).left
  desk_left r = ap (λ (c : Option Settings). (render_for c s r.buffers).left) is

  pub desk_from : (m : ℕ) (came left : Buffers) → FromSection came (left_in g s) m left → FromSection came (ffi_left a s) m left
  desk_from m came left f = record { are_rendered = λ r. f.are_rendered r ∙ sym (ap (onward m) (desk_left r)); stay = f.stay }

-- ---- the claim
module _ (a : Asked) (sus : T (fits binary64 a.sustain)) (old new : List ℕ) (t : Taken new) (b : Buffers) (z : Lent b) where
  edit : (r : BuffersOf (samples_in b)) (q : Good a old r.buffers) → Edit q.settings old new
  edit r q = record { settings = q.in_domain; sustain_fits = sustain_fits a sus q.settings q.known; old_taken = q.taken; new-taken = t }

  in_words : (g : Settings) → choice_of a ≡ Some g → rerender_for (choice_of a) old new b ≡ rerendered (rerender_of g old new b)
  in_words g is = ap (λ (c : Option Settings). rerender_for c old new b) is

  says : (g : Settings) (m k : ℕ) → (rerender_of g old new b).result ≡ Ok (min (k * section_size) (samples_in b) - m * section_size) → FfiCounted m k b (rerendered (rerender_of g old new b)).result
  says g m k e = record { counted = ap packed_of e; reads = rerender-reads g old new b ∙ ap numbers_of e }

  module _ (p : ℕ) (e : difference_of old new ≡ Some p) (heard : p < samples_in b) (r : BuffersOf (samples_in b)) (zero : Zero (ffi_left a old r).result) where
    abbrev m : ℕ
    m = p / section_size

    q : Good a old r.buffers
    q = zero_good a old r.buffers zero

    remade : onward m b ≡ onward m (ffi_left a old r).left → FfiRemade a old new m b (rerender_for (choice_of a) old new b)
    remade left =
        let g = q.settings in
        let d = demand_3_holds.re_rendered g old new (edit r q) b z p e heard r (left ∙ ap (onward m) (desk_left a g q.known old r)) in
        rw (in_words g q.known)
        (record {
          settings = g;
          known = q.known;
          stop_section = d.stop_section;
          stops = d.stops;
          says = says g m d.stop_section d.to_the_stop.counted;
          left = desk_from a g q.known new m b (rerender_of g old new b).left d.left;
        })

    start_remade : entry_at b.stored m ≡ entry_at (ffi_left a old r).left.stored m → FfiStartRemade a old new m b (rerender_for (choice_of a) old new b)
    start_remade left =
        let g = q.settings in
        let d = demand_3_holds.start_alone g old new (edit r q) b z p e heard r (left ∙ ap (λ (c : Buffers). entry_at c.stored m) (desk_left a g q.known old r)) in
        let to = d.to_the_stop in
        rw (in_words g q.known)
        (record {
          settings = g;
          known = q.known;
          stop_section = d.stop_section;
          stops = d.stops;
          says = says g m d.stop_section to.counted;
          are_rendered = λ s. to.are_rendered s ∙ sym (ap (λ (c : Buffers). onward m (before d.stop_section c)) (desk_left a g q.known new s));
          stay = to.stay;
          recounted = to.recounted;
          to_the_end = λ i. desk_from a g q.known new m b (rerender_of g old new b).left (d.to_the_end i);
        })

    entries_remade : (onward m b).stored ≡ (onward m (ffi_left a old r).left).stored → FfiEntriesRemade a old new m b (rerender_for (choice_of a) old new b)
    entries_remade left =
        let g = q.settings in
        let d = demand_3_holds.entries_alone g old new (edit r q) b z p e heard r (left ∙ ap (λ (c : Buffers). (onward m c).stored) (desk_left a g q.known old r)) in
        rw (in_words g q.known)
        (record {
          settings = g;
          known = q.known;
          stop_section = d.stop_section;
          stops = d.stops;
          says = says g m d.stop_section d.to_the_stop.counted;
          entries = λ s. d.entries s ∙ sym (ap (λ (c : Buffers). (onward m c).stored) (desk_left a g q.known new s));
        })

    nothing_stops : entry_at b.stored m ≡ entry_at (ffi_left a old r).left.stored m → ((j : ℕ) → m < j → j < entries_for (samples_in b) → is_entry (entry_at b.stored j) ≡ false) → FfiToTheEnd a new m b (rerender_for (choice_of a) old new b)
    nothing_stops left none =
        let g = q.settings in
        let d = demand_3_holds.nothing_stops g old new (edit r q) b z p e heard r (left ∙ ap (λ (c : Buffers). entry_at c.stored m) (desk_left a g q.known old r)) none in
        rw (in_words g q.known) (record { counted = ap packed_of d.counted; left = desk_from a g q.known new m b (rerender_of g old new b).left d.left })

  nothing : (r : BuffersOf (samples_in b)) → Zero (ffi_left a old r).result → ((g : Settings) → Edit g old new → rerender_of g old new b ≡ leaves (Ok 0) b) → rerender_for (choice_of a) old new b ≡ leaves (packed_of (Ok 0)) b
  nothing r zero f = let q = zero_good a old r.buffers zero in in_words q.settings q.known ∙ ap rerendered (f q.settings (edit r q))

pub words_demand_3 : WordsDemand3
words_demand_3 =
    record {
      re_rendered = λ a sus old new t b z p e heard r zero. remade a sus old new t b z p e heard r zero;
      entries_alone = λ a sus old new t b z p e heard r zero. entries_remade a sus old new t b z p e heard r zero;
      nothing_stops = λ a sus old new t b z p e heard r zero. nothing_stops a sus old new t b z p e heard r zero;
      start_alone = λ a sus old new t b z p e heard r zero. start_remade a sus old new t b z p e heard r zero;
      equal = λ a sus s b z r zero. nothing a sus s s (zero_good a s r.buffers zero).taken b z r zero (λ g x. demand_3_holds.equal g s x b z);
      late = λ a sus old new t b z p e l r zero. nothing a sus old new t b z r zero (λ g x. demand_3_holds.late g old new x b z p e l);
    }
