-- The first stamp from the start of the interval on, if it is below its end.
-- The prover does not read by itself what `filter` answers.
use Rattle.std.proofs.Common.{◌≡◌, Bool, true, false, cond, ltb, Option, Some, None, MatchOption, refl, ap, ◌∙◌, rules}
use Rattle.std.proofs.lemmas.Map.Entries.{option_filter}
use Rattle.std.specs.Bool.{then_some}
use Rattle.stamps.proofs.Parting.{first_from_start_decides}
use Rattle.stamps.proofs.rising.keep.first_inside.Goals as goal

then_some_is : {T : Type 0} (b : Bool) (x : T) → then_some b x ≡ cond b (Some x) None
then_some_is true x = refl
then_some_is false x = refl

-- What `filter` answers where each call of the test gives p.
filter_is : {T : Type 0} (p : T → Bool) (Gives : T → Bool → Type 0) (o r : Option T) → ((x : T) (b : Bool) → Gives x b → b ≡ p x)
    → MatchOption o (r ≡ None) (λ x. (b : Bool) × Gives x b × (r ≡ then_some b x)) → r ≡ option_filter p o
filter_is p Gives None r tells none = none
filter_is p Gives (Some x) r tells (b, gives, is) = is ∙ then_some_is b x ∙ ap (λ b. cond b (Some x) None) (tells x b gives)

pub returns : goal.returns
returns c =
    let xs = c.args.stamps.now in
    let i = c.args.interval in
    filter_is (λ y. ltb y i.end) _ _ _ (λ x b gives. search rules) c.filter.ensures
    ∙ ap (option_filter (λ y. ltb y i.end)) c.first_from_start.ensures
    ∙ first_from_start_decides xs i c.requires
