-- THE THEOREM of the line program, about the calls that it makes: whatever pieces the input comes in and however far each call goes,
-- what the calls put out is the text of the answers to the input's lines, in order.
-- Assumes nothing.
use mathlib.Core.Path.{◌≡◌, sym, ap, ◌∙◌}
use mathlib.Core.List.{List, [], ◌++◌}
use Prim.Native.Nat.{ℕ}
use lib.ListN.{take}
use Rattle.lists.proofs.Writing.{written_take}
use Rattle.fields.specs.Lines.{lines_of}
use Rattle.lines.specs.Sessions.{World, answers}
use Rattle.lines.specs.Streams.{progress}
use Rattle.lines.specs.Inputs.{fed, ended}
use Rattle.fields.specs.Cuts.{whole}
use Rattle.lines.specs.Runs.{Runs, finishes, feeds}
use Rattle.lines.proofs.StreamLaws.{put_out, program}
use Rattle.lines.proofs.PartLaws.{feed_feeds, feed_text, finish_ends}

run_puts : {w : World} {h : List ℕ} {parts : List (List ℕ)} {text : List ℕ} → Runs w h parts text → text ≡ put_out w h parts
unfolding put_out
run_puts (finishes w line m out taken put e) =
    let f = finish_ends w line m out taken put e in
    ap (take put) f.out_is ∙ written_take put (ended (progress w (take m line) [])).text out (sym f.put_is)
run_puts (feeds w line m piece out taken put e parts text r) =
    let f = feed_feeds w line m piece out taken put e in
    let s = fed (progress w (take m line) []) (take taken piece) in
    ap (λ (t : List ℕ). t ++ text) (feed_text f)
    ∙ ap (λ (t : List ℕ). s.text ++ t) (run_puts r)
    ∙ (λ i. s.text ++ put_out (f.world_is i) (f.held_is i) parts)

-- from nothing held
pub runs_answer : {w : World} {parts : List (List ℕ)} {text : List ℕ} → Runs w [] parts text → text ≡ answers w (lines_of (whole parts))
runs_answer {w} {parts} r = run_puts r ∙ program w parts
