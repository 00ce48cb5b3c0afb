-- `exchanges::exchange` meets its contract: 6 where one side would hold too many, or both sides.
use mathlib.Core.Bool.{true}
use Rattle.openings.specs.declared.Party.{Party}
use Rattle.exchanges.proofs.Trade.{turned, refused_a, refused_b, room, trades, exchanged}
use Rattle.exchanges.proofs.exchange.Goals as goal
use Rattle.exchanges.proofs.exchange.Goals.{then-overfills-via-then-overfills, then-overfills-via-else-overfills+then-overfills-2}

pub returns-then-overfills : goal.returns-then-overfills
returns-then-overfills c =
    let a : Party = record { start = c.args.a; finishes = c.finishes.result; held = c.held_of.result } in
    let b : Party = record { start = c.args.b; finishes = c.finishes-2.result; held = c.held_of-2.result } in
    elim c.then-overfills.branch [
      | then-overfills-via-then-overfills w ↦
          refused_a c.args.t.now c.args.outcome c.args.a.node c.args.b.node _ _ c.finishes.ensures
          (room c.args.t.now a b c.requires c.held_of-2.ensures c.held_of.ensures c.overfills.result true c.overfills.ensures w.if-overfills.true)
      | then-overfills-via-else-overfills+then-overfills-2 w ↦
          refused_b c.args.t.now c.args.outcome c.args.a.node c.args.b.node _ _ c.finishes-2.ensures
          (room c.args.t.now b a (turned c.requires) c.held_of.ensures c.held_of-2.ensures w.overfills-else-overfills.result true
          w.overfills-else-overfills.ensures w.if-overfills-2.true)
    ]

pub both_sides-requires : goal.both_sides-requires
both_sides-requires c =
    trades c.requires c.held_of.ensures c.held_of-2.ensures c.overfills.ensures c.if-overfills.false c.overfills-else-overfills.ensures
    c.if-overfills-2.false

pub returns : goal.returns
returns c =
    let fits =
    trades c.requires c.held_of.ensures c.held_of-2.ensures c.overfills.ensures c.if-overfills.false c.overfills-else-overfills.ensures
    c.if-overfills-2.false
    in
    exchanged fits c.args.outcome c.finishes.ensures c.finishes-2.ensures c.both_sides.ensures
