-- From among the newer ones on, or from among the older ones.
use Rattle.std.proofs.Common.{◌≡◌, ◌∙◌, ◌++◌, List, ap, false, length, sym, true}
use Rattle.std.specs.Prelude.{◌==◌}
use Rattle.zone_differences.specs.Histories.{since}
use Rattle.zone_differences.specs.declared.difference.Difference.{Difference}
use Rattle.zone_differences.proofs.Following.{no_length, since_newer, since_none, since_older}
use Rattle.zone_differences.proofs.history.History.since.Goals as goal

pub returns-then-not-is_empty : goal.returns-then-not-is_empty
returns-then-not-is_empty c =
    let s = c.args.serial in
    let older : List Difference = c.self.inside.older.items in
    let newer : List Difference = c.self.inside.newer.items in
    let is : c.since-newer.result.now ≡ since s newer = c.since-newer.ensures ∙ ap (since s) c.deref.ensures.value in
    is
    ∙ sym (since_newer s older newer
    (λ h. let e : c.is_empty.result ≡ true = c.is_empty.ensures ∙ ap (λ (l : List Difference). length l == 0) (is ∙ h) in let f : true ≡ false = sym e ∙ c.if-not-is_empty.true in cc))
    ∙ ap (since s) c.self.view_is

pub returns-then-is_empty : goal.returns-then-is_empty
returns-then-is_empty c =
    let s = c.args.serial in
    let older : List Difference = c.self.inside.older.items in
    let newer : List Difference = c.self.inside.newer.items in
    let new : c.since-newer.result.now ≡ since s newer = c.since-newer.ensures ∙ ap (since s) c.deref.ensures.value in
    let old : c.since-older.result.now ≡ since s older = c.since-older.ensures ∙ ap (since s) c.deref-2.ensures.value in
    c.none.ensures
    ∙ sym (since_none s older newer (sym new ∙ no_length c.since-newer.result.now (sym c.is_empty.ensures ∙ c.if-not-is_empty.false))
    (sym old ∙ no_length c.since-older.result.now (sym c.is_empty-2.ensures ∙ c.if-is_empty.true)))
    ∙ ap (since s) c.self.view_is

pub returns : goal.returns
returns c =
    let s = c.args.serial in
    let older : List Difference = c.self.inside.older.items in
    let newer : List Difference = c.self.inside.newer.items in
    let new : c.since-newer.result.now ≡ since s newer = c.since-newer.ensures ∙ ap (since s) c.deref.ensures.value in
    let old : c.since-older.result.now ≡ since s older = c.since-older.ensures ∙ ap (since s) c.deref-2.ensures.value in
    (λ i. old i ++ c.deref-3.ensures.value i)
    ∙ sym (since_older s older newer (sym new ∙ no_length c.since-newer.result.now (sym c.is_empty.ensures ∙ c.if-not-is_empty.false))
    (λ h. let e : c.is_empty-2.result ≡ true = c.is_empty-2.ensures ∙ ap (λ (l : List Difference). length l == 0) (old ∙ h) in let f : true ≡ false = sym e ∙ c.if-is_empty.false in cc))
    ∙ ap (since s) c.self.view_is
