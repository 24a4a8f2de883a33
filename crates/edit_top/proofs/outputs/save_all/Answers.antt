use Rattle.std.proofs.Common.{◌≡◌, ◌++◌, ◌∷◌, [], List, ℕ, map, ap, sym, ◌∙◌, subst, append_assoc}
use Rattle.std.proofs.lemmas.List.{map_push, map-append}
use Rattle.std.specs.Vec.Iter.{into_iter_items}
use Rattle.edit_top.specs.declared.outputs.Output.{Output}
use Rattle.edit_top.specs.Outputs.{output_view, AreSaved}
use Rattle.edit_top.proofs.Messages.{rose_since}
use Rattle.edit_top.proofs.Saving.{saved_then, later_then}
use Rattle.edit_top.proofs.outputs.save_all.Goals as goal

pub loop-output-preserved : goal.loop-output-preserved
loop-output-preserved g c =
    let before = g.F.Shelf.seen c.args.shelf.now in
    let mid = g.F.Shelf.seen c.loop-output.shelf in
    let after = g.F.Shelf.seen c.save.new.self in
    record {
      saved = subst (λ (os : List (List ℕ × List ℕ)). AreSaved before.files after.files os) (sym (map_push output_view c.loop-output.yielded c.in-Some.output))
          (saved_then before.files mid.files after.files (map output_view c.loop-output.yielded) (output_view c.in-Some.output) c.loop-output.invariant.saved c.in_default.ensures.saved);
      later = later_then before mid after c.loop-output.invariant.later c.in_default.ensures.later;
      split = append_assoc c.loop-output.yielded (c.in-Some.output ∷ []) (into_iter_items c.next.new.self)
          ∙ ap (λ (os : List Output). c.loop-output.yielded ++ os) (sym c.in-Some.ensures.steps.0) ∙ c.loop-output.invariant.split;
    }

pub returns-in-Err : goal.returns-in-Err
returns-in-Err g c =
    let before = g.F.Shelf.seen c.args.shelf.now in
    let mid = g.F.Shelf.seen c.loop-output.shelf in
    let after = g.F.Shelf.seen c.save.new.self in
    let output = output_view c.in-Some.output in
    let parts : c.args.outputs.items ≡ c.loop-output.yielded ++ (c.in-Some.output ∷ into_iter_items c.next.new.self) =
    sym c.loop-output.invariant.split ∙ ap (λ (os : List Output). c.loop-output.yielded ++ os) c.in-Some.ensures.steps.0 in
    record {
      saved = tt;
      stopped = record {
        front = map output_view c.loop-output.yielded;
        output = output;
        rest = map output_view (into_iter_items c.next.new.self);
        parts = ap (map output_view) parts ∙ map-append output_view c.loop-output.yielded (c.in-Some.output ∷ into_iter_items c.next.new.self);
        between = mid.files;
        saved = c.loop-output.invariant.saved;
        torn = c.in-Err.ensures.torn;
        rose = rose_since (before.save_faults output.0) (mid.save_faults output.0) (after.save_faults output.0) (c.loop-output.invariant.later.save_faults output.0) c.in-Err.ensures.failed;
      };
    }
