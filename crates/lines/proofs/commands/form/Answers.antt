-- `lines::commands::form` meets its contract.
-- Assumes nothing.
use mathlib.Core.Path.{◌∙◌}
use borrow.Author.Tests.{lt-leb}
use Rattle.lines.specs.Commands.{command_of}
use Rattle.lines.proofs.CommandLaws.{command_fields, command_more}
use Rattle.lines.proofs.commands.form.Goals as goal

pub returns-then-line-gt80 : goal.returns-then-line-gt80
unfolding command_of
returns-then-line-gt80 c = rw (lt-leb _ _ c.if-line-gt80.true)

pub returns-in-One : goal.returns-in-One
returns-in-One c = c.alone.ensures ∙ command_fields c.args.line.now c.if-line-gt80.false _ c.in-One.ensures

pub returns-in-Two : goal.returns-in-Two
returns-in-Two c = c.with_one.ensures ∙ command_fields c.args.line.now c.if-line-gt80.false _ c.in-Two.ensures

pub returns-in-Four : goal.returns-in-Four
returns-in-Four c = c.with_three.ensures ∙ command_fields c.args.line.now c.if-line-gt80.false _ c.in-Four.ensures

pub returns-in-Three : goal.returns-in-Three
returns-in-Three c = command_fields c.args.line.now c.if-line-gt80.false _ c.in-Three.ensures

pub returns-in-More : goal.returns-in-More
returns-in-More c = command_more c.args.line.now c.if-line-gt80.false c.in-More.ensures
