-- `exports::chooser::perillajamb_chooser_grow_k` meets its contract.
-- Assumes nothing.
use Rattle.std.proofs.Common.{◌∙◌, rules}
use Rattle.answers.specs.Answers.{after}
use Rattle.answers.specs.Refusals.{answer_of}
use Rattle.choosers.specs.ChooserCalls.{ChooserState, chooser_state, grow_call}
use Rattle.exports.specs.Chooser.{chooser_layout, chooser_lending, grow_crossed}
use Rattle.exports.proofs.KeptLaws.{kept}
use Rattle.exports.proofs.CrossLaws.{too_few, called_is}
use Rattle.exports.proofs.chooser.perillajamb_chooser_grow_k.Goals as goal

pub returns-then-words-lt-WORDS : goal.returns-then-words-lt-WORDS
unfolding grow_crossed
returns-then-words-lt-WORDS c = too_few chooser_layout c.args.words.now c.if-words-lt-WORDS.true _ 4 _ _ c.refused.ensures

pub returns : goal.returns
unfolding grow_crossed
returns c =
    let a = c.args in
    let said = c.grow_k-said in
    let words = rw c.is_ok.ensures.value at c.keep.ensures in
    called_is chooser_lending (λ c. chooser_state c a.list.now) a.words.now (search rules) (λ x. x) (λ (s : ChooserState). grow_call s.chooser s.list) _ (after (answer_of said.result) (chooser_state said.new.self _)) _ _
    c.loaded-c.ensures said.ensures.answer c.wide_number.ensures (words ∙ kept _ _ said.result)
