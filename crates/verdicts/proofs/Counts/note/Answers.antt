-- `verdicts::Counts::note`: the search from the pair's slot tells whether it is known; the record that was found tells whether it is touched.
use mathlib.Core.Path.{◌≡◌, refl, sym, ◌∙◌}
use mathlib.Core.Bool.{Bool, true, false, cond}
use Prim.Native.Nat.{◌≤◌}
use native.Mathlib.Omega.{arith}
use mir.Val.{bool_byte}
use Rattle.pairs.proofs.KeptLaws.{noted_low}
use Rattle.verdicts.proofs.NoteLaws.{inside_found, known, new, risen, touched_before, unneeded}
use Rattle.verdicts.proofs.Counts.note.Goals as goal
use Rattle.verdicts.proofs.Counts.note.Goals.{else-platter-via-then-platter+else-not-touches, else-platter-via-else-platter}

byte_is : (b : Bool) → bool_byte b ≡ cond b 1 0
byte_is true = refl
byte_is false = refl

one_most : (b : Bool) → bool_byte b ≤ 1
one_most true = omega arith
one_most false = omega arith

pub overflow_add-self : goal.overflow_add-self
overflow_add-self c =
    let low = noted_low _ _ _ _ _ _ c.requires.noted in
    omega (arith, low.0)

pub overflow_add-self-in-None : goal.overflow_add-self-in-None
overflow_add-self-in-None c =
    let low = noted_low _ _ _ _ _ _ c.requires.noted in
    omega (arith, low.1, c.from.ensures, one_most c.args.platter)

pub overflow_mul-known : goal.overflow_mul-known
overflow_mul-known c =
    let inside = inside_found _ _ c.requires.number_value.0 c.requires.number_value.1 _ _ _ _ c.requires.noted _ c.of-pair.ensures _ c.in-Some.ensures.1 in
    omega (arith, inside, c.requires.noted.kept.rising.room)

pub offset_bounds-words-known : goal.offset_bounds-words-known
offset_bounds-words-known c =
    let inside = inside_found _ _ c.requires.number_value.0 c.requires.number_value.1 _ _ _ _ c.requires.noted _ c.of-pair.ensures _ c.in-Some.ensures.1 in
    omega (arith, inside, c.requires.noted.kept.rising.room)

pub bounds-words-known : goal.bounds-words-known
bounds-words-known c =
    let inside = inside_found _ _ c.requires.number_value.0 c.requires.number_value.1 _ _ _ _ c.requires.noted _ c.of-pair.ensures _ c.in-Some.ensures.1 in
    omega (arith, inside, c.in-Some.ensures.0)

pub overflow_add-self-then-not-touches : goal.overflow_add-self-then-not-touches
overflow_add-self-then-not-touches c =
    let low = noted_low _ _ _ _ _ _ c.requires.noted in
    omega (arith, low.1)

pub returns-in-None : goal.returns-in-None
returns-in-None c =
    let put = c.put_first.ensures in
    new _ _ c.requires.number_value.0 c.requires.number_value.1 _ _ _ _ c.requires.noted _ c.of-pair.ensures 0 c.in-None.ensures
    c.requires.is_scrubbed_value c.args.platter c.requires.platter_value _ _ put.heads_after put.links_after c.from.result refl
    (c.from.ensures ∙ byte_is c.args.platter)

pub returns-then-not-touches : goal.returns-then-not-touches
returns-then-not-touches c =
    let put = c.put_first-then-not-touches.ensures in
    let found = c.in-Some.ensures in
    let old = touched_before _ c.in-Some.known c.touches.result found.0 c.touches.ensures in
    risen _ _ c.requires.number_value.0 c.requires.number_value.1 _ _ _ _ c.requires.noted _ c.of-pair.ensures _ found.1
    c.requires.is_scrubbed_value c.args.platter c.requires.platter_value _ _ put.heads_after put.links_after found.0 c.if-platter.true
    (sym old ∙ c.if-not-touches.true)

pub returns-else-platter : goal.returns-else-platter
returns-else-platter c =
    let found = c.in-Some.ensures in
    elim c.else-platter.branch [
      | else-platter-via-then-platter+else-not-touches w ↦
          known _ _ c.requires.number_value.0 c.requires.number_value.1 _ _ _ _ c.requires.noted _ c.of-pair.ensures _ found.1
          c.requires.is_scrubbed_value c.args.platter c.requires.platter_value found.0
          (sym (touched_before _ c.in-Some.known w.touches.result found.0 w.touches.ensures) ∙ w.if-not-touches.false)
      | else-platter-via-else-platter w ↦
          unneeded _ _ c.requires.number_value.0 c.requires.number_value.1 _ _ _ _ c.requires.noted _ c.of-pair.ensures _ found.1
          c.requires.is_scrubbed_value c.args.platter c.requires.platter_value found.0 w.if-platter.false
    ]
