-- `exports::chooser::perillajamb_chooser_next` meets its contract.
-- Assumes nothing.
use Rattle.std.proofs.Common.{◌∙◌, rules}
use Rattle.answers.specs.Answers.{after}
use Rattle.answers.specs.Refusals.{answer_of_option}
use Rattle.choosers.specs.ChooserCalls.{ChooserState, chooser_state, next_call}
use Rattle.exports.specs.Coded.{found_number}
use Rattle.exports.specs.Chooser.{chooser_layout, chooser_lending, next_crossed}
use Rattle.exports.proofs.KeptLaws.{kept_option}
use Rattle.exports.proofs.CrossLaws.{too_few, called_is}
use Rattle.exports.proofs.chooser.perillajamb_chooser_next.Goals as goal

pub returns-then-words-lt-WORDS : goal.returns-then-words-lt-WORDS
unfolding next_crossed
returns-then-words-lt-WORDS c = too_few chooser_layout c.args.words.now c.if-words-lt-WORDS.true _ 4 _ _ c.refused.ensures

pub returns : goal.returns
unfolding next_crossed
returns c =
    let a = c.args in
    let said = c.next-said in
    let words = rw c.is_ok.ensures.value at c.keep.ensures in
    called_is chooser_lending (λ c. chooser_state c a.list.now) a.words.now (search rules) found_number (λ (s : ChooserState). next_call s.chooser s.list) _ (after (answer_of_option said.result) (chooser_state said.new.self _)) _ _
    c.loaded-c.ensures said.ensures.answer c.hash.ensures (words ∙ kept_option _ _ said.result)
