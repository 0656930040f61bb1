-- `lines::commands::alone` meets its contract.
-- Assumes nothing.
use native.Mathlib.Omega.{arith}
use Rattle.lines.proofs.CommandLaws.{alone_admit, alone_join, alone_plan, alone_else}
use Rattle.lines.proofs.commands.alone.Goals as goal

pub returns-in-admit : goal.returns-in-admit
returns-in-admit c = alone_admit _ (omega arith) (omega arith, (omega arith, (omega arith, (omega arith, (omega arith, tt)))))

pub returns-in-join : goal.returns-in-join
returns-in-join c = alone_join _ (omega arith) (omega arith, (omega arith, (omega arith, (omega arith, tt))))

pub returns-in-plan : goal.returns-in-plan
returns-in-plan c = alone_plan _ (omega arith) (omega arith, (omega arith, (omega arith, (omega arith, tt))))

-- a byte differs, or the length

pub returns-in_default : goal.returns-in_default
returns-in_default c = alone_else _ (λ n b. omega arith) (λ n b. omega arith) (λ n b. omega arith)

pub returns-in_default-2 : goal.returns-in_default-2
returns-in_default-2 c = alone_else _ (λ n b. omega arith) (λ n b. omega arith) (λ n b. omega arith)

pub returns-in_default-3 : goal.returns-in_default-3
returns-in_default-3 c = alone_else _ (λ n b. omega arith) (λ n b. omega arith) (λ n b. omega arith)

pub returns-in_default-4 : goal.returns-in_default-4
returns-in_default-4 c = alone_else _ (λ n b. omega arith) (λ n b. omega arith) (λ n b. omega arith)

pub returns-in_default-5 : goal.returns-in_default-5
returns-in_default-5 c = alone_else _ (λ n b. omega arith) (λ n b. omega arith) (λ n b. omega arith)

pub returns-in_default-6 : goal.returns-in_default-6
returns-in_default-6 c = alone_else _ (λ n b. omega arith) (λ n b. omega arith) (λ n b. omega arith)

pub returns-in_default-7 : goal.returns-in_default-7
returns-in_default-7 c = alone_else _ (λ n b. omega arith) (λ n b. omega arith) (λ n b. omega arith)

pub returns-in_default-8 : goal.returns-in_default-8
returns-in_default-8 c = alone_else _ (λ n b. omega arith) (λ n b. omega arith) (λ n b. omega arith)

pub returns-in_default-9 : goal.returns-in_default-9
returns-in_default-9 c = alone_else _ (λ n b. omega arith) (λ n b. omega arith) (λ n b. omega arith)

pub returns-in_default-10 : goal.returns-in_default-10
returns-in_default-10 c = alone_else _ (λ n b. omega arith) (λ n b. omega arith) (λ n b. omega arith)

pub returns-in_default-11 : goal.returns-in_default-11
returns-in_default-11 c = alone_else _ (λ n b. omega arith) (λ n b. omega arith) (λ n b. omega arith)

pub returns-in_default-12 : goal.returns-in_default-12
returns-in_default-12 c = alone_else _ (λ n b. omega arith) (λ n b. omega arith) (λ n b. omega arith)

pub returns-in_default-13 : goal.returns-in_default-13
returns-in_default-13 c = alone_else _ (λ n b. omega arith) (λ n b. omega arith) (λ n b. omega arith)

pub returns-in_default-14 : goal.returns-in_default-14
returns-in_default-14 c = alone_else _ (λ n b. omega arith) (λ n b. omega arith) (λ n b. omega arith)
