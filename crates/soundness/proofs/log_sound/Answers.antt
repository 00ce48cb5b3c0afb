-- `soundness::log_sound`: the held part that is scanned has the records of the definition, which reads the whole log.
use Rattle.std.proofs.Common.{◌≡◌, ◌∙◌, ap, ℕ, ◌+◌, ◌-◌, ◌*◌, ◌/◌, ◌≤◌, List, length, take, drop, length-take, length-drop, arith}
use Rattle.meaning.specs.Rows.{every, record_at}
use Rattle.meaning.specs.Table.{record_sound}
use Rattle.meaning.proofs.SoundLaws.{log_full, log_scanned}
use Rattle.soundness.proofs.log_sound.Goals as goal

-- how many records are lent
lent : (t : List ℕ) (at h : ℕ) → at + 4 * h ≤ length t → length (take ((at + 4 * h) - at) (drop at t)) / 4 ≡ h
lent t at h fits =
    let long : length (take ((at + 4 * h) - at) (drop at t)) ≡ 4 * h = omega (arith, length-take {A = ℕ}, length-drop {A = ℕ}) in
    omega arith

pub returns-then-held-gt-LOG_MOST : goal.returns-then-held-gt-LOG_MOST
returns-then-held-gt-LOG_MOST c = log_full _ _ _ c.held_of-held.ensures (omega arith)

pub returns : goal.returns
returns c =
    let t = c.args.t.now in
    let at = c.log_at-from.result in
    let h = c.held_of-held.result in
    let w = take ((at + 4 * h) - at) (drop at t) in
    let fits : at + 4 * h ≤ length t = omega arith in
    log_scanned _ _ _ _ _ ((at + 4 * h) - at) _ c.requires.1 c.held_of-held.ensures (omega arith) c.log_at-from.ensures
    (c.records_sound.ensures ∙ ap (λ (m : ℕ). every m (λ i. record_sound c.args.n (record_at w i))) (lent t at h fits)) (omega arith)
