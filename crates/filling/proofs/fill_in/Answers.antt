-- `filling::fill_in` meets its contract. Assumes nothing.
use lib.Ieee.{Float}
use Rattle.filling.proofs.Lent.{filled_as, table_read, table_unread}
use Rattle.filling.proofs.fill_in.Goals as goal

pub returns-in_default : goal.returns-in_default
returns-in_default c = let a = c.args in filled_as _ _ _ _ _ _ _ _ (λ (q : Float). table_unread a.wave.now a.waveform _ q (λ s l. c.in_default.ensures.1 l)) c.fill.ensures

pub returns-in-Sine : goal.returns-in-Sine
returns-in-Sine c = let whole = c.in-Ok.ensures.1 in
    rw c.in-Sine.is (filled_as _ _ _ _ _ _ _ _ (λ (q : Float). rw whole.same (table_read _ _ q whole.long)) c.fill_wave.ensures)

pub returns : goal.returns
returns c = let a = c.args in filled_as _ _ _ _ _ _ _ _ (λ (q : Float). table_unread a.wave.now a.waveform _ q (λ s l. c.in_default-waveform.not-Sine s)) c.fill-2.ensures
