-- The new stamp stands last, and is turned in before the others from `at` on.
-- The prover does not find which stamps the turned part of the places holds.
use Rattle.std.proofs.Common.{◌≡◌, true, sym, ◌∙◌, arith, rules}
use Rattle.std.proofs.lemmas.Bool.{cond-true}
use Rattle.std.proofs.lemmas.Grind.{common_steps}
use Rattle.stamps.proofs.Rotating.{turned_in}
use Rattle.stamps.specs.Kept.{has_room}
use Rattle.stamps.specs.Rows.{stamps_in}
use Rattle.stamps.proofs.row.Row.insert.Goals as goal

pub returns-clause-stamps : goal.returns-clause-stamps
returns-clause-stamps c =
    let old = stamps_in c.args.self.now in
    let taken = sym c.push.ensures.answer ∙ c.in_ok-push.was in
    let room : has_room old ≡ true = grind (arith, common_steps) in
    let row = c.push.new.self in
    let stands_last = c.push.ensures.stamps ∙ cond-true (has_room old) _ _ room in
    turned_in old row.places _ row.count c.args.at c.args.stamp c.requires (search rules) stands_last c.rotate_right.ensures.after ∙ sym (cond-true (has_room old) _ _ room)
