-- Two outcomes that meet a public function's statement are equal. Assumes nothing.
use Rattle.std.specs.Prelude.{Option}
use mathlib.Core.Path.{◌≡◌, sym, ap, ◌∙◌}
use mathlib.Core.List.{List}
use Prim.Native.Nat.{ℕ}
use lib.Ieee.{Float}
use Rattle.sections.specs.Outcome.{Buffers, lends, leaves}
use Rattle.page.specs.Page.{rewrites}
use Rattle.page.proofs.Unique.{same_rewritten}
use Rattle.sections.proofs.Unique.{same_left}
use Rattle.ffi.specs.Packed.{packed_of}
use Rattle.ffi.specs.Version.{version}
use Rattle.ffi.specs.Ffi.{Filled, fills, Continued, continues, check_of, number_in, answer_in, single_of, render_for, rerender_for, edit_for, continue_for, fresh_for, list_for}
use Rattle.state.specs.declared.Settings.{Settings}

pub gav_version_unique : (r t : ℕ) → r ≡ version → t ≡ version → r ≡ t
gav_version_unique r t p q = p ∙ sym q

pub gav_check_score_unique : (s : List ℕ) (r t : ℕ) → r ≡ check_of s → t ≡ check_of s → r ≡ t
gav_check_score_unique s r t p q = p ∙ sym q

pub gav_sample_unique : (code : ℕ) (phase dt duty r t : Float) → r ≡ number_in (single_of code phase dt duty) → t ≡ number_in (single_of code phase dt duty) → r ≡ t
gav_sample_unique code phase dt duty r t p q = p ∙ sym q

pub gav_sample_says_unique : (code : ℕ) (phase dt duty : Float) (r t : ℕ) → r ≡ packed_of (answer_in (single_of code phase dt duty)) → t ≡ packed_of (answer_in (single_of code phase dt duty)) → r ≡ t
gav_sample_says_unique code phase dt duty r t p q = p ∙ sym q

-- ---- calls that are lent buffers: the word, and every element of the buffers
same-filled : (o : Filled) (r t : ℕ) (a b : List ℕ) → fills r a ≡ o → fills t b ≡ o → (r ≡ t) × (a ≡ b)
same-filled o r t a b x y =
    let e : fills r a ≡ fills t b = x ∙ sym y in
    (ap (λ (l : Filled). l.result) e, ap (λ (l : Filled). l.left) e)

pub gav_render_unique : (choice : Option Settings) (s : List ℕ) (b : Buffers) (r t : ℕ) (ys zs : List Float) (ws vs : List ℕ) (ms ns : List Float) (is js : List ℕ)
    → leaves r (lends ys ws ms is) ≡ render_for choice s b → leaves t (lends zs vs ns js) ≡ render_for choice s b → (r ≡ t) × (ys ≡ zs) × (ws ≡ vs) × (ms ≡ ns) × (is ≡ js)
gav_render_unique choice s b r t ys zs ws vs ms ns is js x y = same_left (render_for choice s b) r t ys zs ws vs ms ns is js x y

pub gav_rerender_unique : (choice : Option Settings) (old new : List ℕ) (b : Buffers) (r t : ℕ) (ys zs : List Float) (ws vs : List ℕ) (ms ns : List Float) (is js : List ℕ)
    → leaves r (lends ys ws ms is) ≡ rerender_for choice old new b → leaves t (lends zs vs ns js) ≡ rerender_for choice old new b → (r ≡ t) × (ys ≡ zs) × (ws ≡ vs) × (ms ≡ ns) × (is ≡ js)
gav_rerender_unique choice old new b r t ys zs ws vs ms ns is js x y = same_left (rerender_for choice old new b) r t ys zs ws vs ms ns is js x y

pub gav_edit_unique : (choice : Option Settings) (old es : List ℕ) (b : Buffers) (space : List ℕ) (r t : ℕ) (ys zs : List Float) (ws vs : List ℕ) (ms ns : List Float) (is js left after : List ℕ)
    → rewrites r (lends ys ws ms is) left ≡ edit_for choice old es b space → rewrites t (lends zs vs ns js) after ≡ edit_for choice old es b space
    → (r ≡ t) × (ys ≡ zs) × (ws ≡ vs) × (ms ≡ ns) × (is ≡ js) × (left ≡ after)
gav_edit_unique choice old es b space r t ys zs ws vs ms ns is js left after x y = same_rewritten (edit_for choice old es b space) r t ys zs ws vs ms ns is js left after x y

pub gav_continue_unique : (choice : Option Settings) (s ws : List ℕ) (p : ℕ) (part : List Float) (r t : ℕ) (ys zs : List Float) (c d : List ℕ)
    → continues r ys c ≡ continue_for choice s ws p part → continues t zs d ≡ continue_for choice s ws p part → (r ≡ t) × (ys ≡ zs) × (c ≡ d)
gav_continue_unique choice s ws p part r t ys zs c d x y =
    let e : continues r ys c ≡ continues t zs d = x ∙ sym y in
    (ap (λ (o : Continued ℕ). o.result) e, ap (λ (o : Continued ℕ). o.heard) e, ap (λ (o : Continued ℕ). o.words) e)

pub gav_fresh_unique : (ws : List ℕ) (r t : ℕ) (a b : List ℕ) → fills r a ≡ fresh_for ws → fills t b ≡ fresh_for ws → (r ≡ t) × (a ≡ b)
gav_fresh_unique ws r t a b x y = same-filled (fresh_for ws) r t a b x y

pub gav_list_unique : (s text : List ℕ) (r t : ℕ) (a b : List ℕ) → fills r a ≡ list_for s text → fills t b ≡ list_for s text → (r ≡ t) × (a ≡ b)
gav_list_unique s text r t a b x y = same-filled (list_for s text) r t a b x y
