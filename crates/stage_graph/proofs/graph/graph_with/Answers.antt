-- The index is that of all outputs.
use Rattle.std.proofs.Common.{◌≡◌, ℕ, ◌<◌, ◌^◌, List, Option, None, ◌∷◌, length, sym, ap, ◌∙◌, subst}
use Rattle.std.proofs.lemmas.List.{length-map}
use Rattle.std.proofs.lemmas.Result.{err_from_is_err_and}
use Rattle.dvc_base.specs.Path.{Path}
use Rattle.dvc_base.specs.declared.fault.Fault.{Fault}
use Rattle.path_index.specs.Overlap.{places}
use Rattle.stage_graph.specs.Clash.{made_by, made_fault, params_path}
use Rattle.stage_graph.specs.Cycle.{cycle_fault}
use Rattle.stage_graph.specs.Fault.{first_of}
use Rattle.stage_graph.specs.Paths.{output_paths, is_above}
use Rattle.stage_graph.specs.declared.output.Output.{Output}
use Rattle.std.specs.Option.{option_or}
use Rattle.stage_graph.proofs.FaultLemmas.{after_none, due_same, due_first}
use Rattle.stage_graph.proofs.GraphLemmas.{graph_same, graph_err}
use Rattle.stage_graph.proofs.graph.graph_with.Goals as goal

pub in_order-requires : goal.in_order-requires
in_order-requires c =
    let stages = c.args.stages.now in
    record {
      few = subst (λ (n : ℕ). n < 2 ^ 32) (sym (ap (λ (above : List (List ℕ)). length above) c.in_ok-above.ensures.exact
          ∙ length-map stages (λ b. places (λ a. is_above a b) stages))) c.requires.few;
      above = c.in_ok-above.ensures.exact;
    }

pub returns-in_err-check_made : goal.returns-in_err-check_made
returns-in_err-check_made c =
    let stages = c.args.stages.now in
    let of_outs : List Path → Option Fault = λ outs. first_of (made_by outs) (params_path ∷ c.args.vars.now) in
    let index_is = c.in_ok-index.ensures.same ∙ c.in_ok-paths.ensures.exact ∙ ap (λ (os : List Output). output_paths os) c.requires.outputs in
    let exit = err_from_is_err_and c.from_residual-in_err-check_made.result c.from_residual-in_err-check_made.ensures.1 in
    record {
      answer = graph_err stages c.from_residual-in_err-check_made.result (option_or (made_fault stages c.args.vars.now) (cycle_fault stages)) exit.0 _ exit.1 exit.2
          (due_first (made_fault stages c.args.vars.now) (cycle_fault stages) _
          (due_same (of_outs c.in_ok-index.index) (made_fault stages c.args.vars.now) _ (ap of_outs (sym index_is)) c.in_err-check_made.ensures.checked));
    }

pub returns : goal.returns
returns c =
    let stages = c.args.stages.now in
    let of_outs : List Path → Option Fault = λ outs. first_of (made_by outs) (params_path ∷ c.args.vars.now) in
    let index_is = c.in_ok-index.ensures.same ∙ c.in_ok-paths.ensures.exact ∙ ap (λ (os : List Output). output_paths os) c.requires.outputs in
    let none : made_fault stages c.args.vars.now ≡ None = ap of_outs (sym index_is) ∙ c.in_ok-check_made.ensures.checked in
    record {
      answer = graph_same stages c.in_order.result (cycle_fault stages) (option_or (made_fault stages c.args.vars.now) (cycle_fault stages))
          (sym (after_none (made_fault stages c.args.vars.now) (cycle_fault stages) none)) c.in_order.ensures.answer;
    }
