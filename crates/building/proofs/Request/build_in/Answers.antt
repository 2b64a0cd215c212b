-- One law for each answer.
use Rattle.std.proofs.Common.{refl, sym, ◌∙◌, true}
use Rattle.kinds.proofs.Listing.{listed_few}
use Rattle.building.proofs.Requesting.{refuse_nan, refuse_count, refuse_operand, fits, interned}
use Rattle.building.proofs.Request.build_in.Goals as goal

pub returns-then-is_nan_constant-clause-builds : goal.returns-then-is_nan_constant-clause-builds
returns-then-is_nan_constant-clause-builds c = refuse_nan true _ _ _ _ _ _ _ c.requires c.args.store.now.sound refl _ c.is_nan_constant.ensures c.if-is_nan_constant.true

pub returns-then-not-is_listed-clause-builds : goal.returns-then-not-is_listed-clause-builds
returns-then-not-is_listed-clause-builds c = refuse_count true _ _ _ _ _ _ _ c.requires c.args.store.now.sound refl (sym c.is_nan_constant.ensures ∙ c.if-is_nan_constant.false) _ c.is_listed.ensures c.if-not-is_listed.true

pub returns-then-not-all_below-clause-builds : goal.returns-then-not-all_below-clause-builds
returns-then-not-all_below-clause-builds c = refuse_operand true _ _ _ _ _ _ _ c.requires c.args.store.now.sound refl (sym c.is_nan_constant.ensures ∙ c.if-is_nan_constant.false) (sym c.is_listed.ensures ∙ c.if-not-is_listed.false) _ c.all_below.ensures c.if-not-all_below.true

pub intern-requires : goal.intern-requires
intern-requires c = fits true _ _ _ _ _ _ _ c.requires c.args.store.now.sound refl (sym c.is_nan_constant.ensures ∙ c.if-is_nan_constant.false) (sym c.is_listed.ensures ∙ c.if-not-is_listed.false) (sym c.all_below.ensures ∙ c.if-not-all_below.false)

pub returns-clause-builds : goal.returns-clause-builds
returns-clause-builds c = interned true _ _ _ _ _ _ _ c.requires c.args.store.now.sound refl (sym c.is_nan_constant.ensures ∙ c.if-is_nan_constant.false) (sym c.is_listed.ensures ∙ c.if-not-is_listed.false) (sym c.all_below.ensures ∙ c.if-not-all_below.false) _ _ _ c.intern.ensures.interns

pub invariant_of-intern : goal.invariant_of-intern
invariant_of-intern c = record { few = listed_few _ _ _ (sym c.is_listed.ensures ∙ c.if-not-is_listed.false) }
