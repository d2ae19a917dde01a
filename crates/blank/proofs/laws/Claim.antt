-- REQUEST 04 HOLDS (`blank-claim`); so no list of calls from the blank plan's setup wakes a module (`nobody-woken`), and paths and marks meet 41,
-- whatever is asked (`nobody-between`, `nobody-near`).
use Rattle.std.specs.Prelude.{ℕ, ◌≡◌, List, [], true}
use Rattle.std.proofs.Math.Path.{refl, ap}
use Rattle.std.proofs.Common.{sym, subst, ◌∙◌}
use Rattle.base.specs.Loop.{After}
use Rattle.plan.specs.Links.{Plan}
use Rattle.plan.specs.Trimmed.{trimmed}
use Rattle.plan_file.proofs.laws.RoundTrip.{read-refusal}
use Rattle.field.specs.Held.{Held, valid, set_up}
use Rattle.field_calls.specs.Call.{Call}
use Rattle.field_calls.specs.Trail.{trail, woken_in}
use Rattle.path.specs.Between.{path_between}
use Rattle.path.specs.Near.{mark_near}
use Rattle.blank.specs.Claim.{Blank, OnBlankField, BlankPlan, BlankClaim}
use Rattle.blank.proofs.laws.Taken.{blank-taken}
use Rattle.blank.proofs.laws.Plans.{trimmed-blank, blank-ceiling, blank-limit, blank-written, blank-short, blank-tree, blank-tree-20, blank-paths, blank-near, read-blank, above-192, link-meets-16, links-meet-15}
use Rattle.blank.proofs.laws.Bytes.{bytes-above-192, bytes-meet-16, bytes-meet-15}
use Rattle.blank.proofs.laws.Fields.{blank-set, blank-valid, blank-step, blank-run, blank-rest, blank-start, blank-deliver}
use Rattle.blank.proofs.laws.Rounds.{blank-rounds}
use Rattle.blank.proofs.laws.Calls.{blank-preview, blank-trail, blank-after}
use Rattle.blank.proofs.laws.Job.{blank_begun, blank-begun, blank-job}
use Rattle.blank.proofs.laws.Program.{blank-prints, blank-traces}

module _ (h : Held) (b : Blank h.field.plan) (v : valid h ≡ true) where
  pub blank-field : OnBlankField h
  blank-field = record {
    steps = blank-step h b v;
    previews = blank-preview h b v;
    runs = blank-run h b v;
    rest = blank-rest h b v;
    rounds = blank-rounds h b v;
    still = blank-trail h b v;
    same = blank-after h b v;
    start = blank-start h b v;
    deliver = blank-deliver h b v;
  }

blank-plan : (p : Plan) → Blank p → BlankPlan p
blank-plan p b = record {
  accepted = blank-taken p b;
  written = blank-written p b;
  short = blank-short p b;
  ceiling = blank-ceiling p b;
  limit = blank-limit p b;
  set = blank-set p b;
  field = λ h e. blank-valid h (subst Blank (sym e) b);
  calls = λ h e v. blank-field h (subst Blank (sym e) b) v;
  tree = blank-tree p b;
  others = blank-tree-20 p b;
  paths = blank-paths p b;
  near = blank-near p b;
  job = blank-job p b;
}

pub blank-claim : BlankClaim
blank-claim = record {
  blank = blank-plan;
  read = read-blank;
  check = λ s. sym (read-refusal s);
  prints = blank-prints;
  traces = blank-traces;
  above = above-192;
  bytes_above = bytes-above-192;
  link = link-meets-16;
  bytes_link = bytes-meet-16;
  links = links-meet-15;
  bytes_links = bytes-meet-15;
}

-- "What is claimed about finished fields still begins with a woken module", and here there is none
module _ (p : Plan) (b : Blank p) (lent : List ℕ) where
  pub nobody-woken : (calls : List Call) → woken_in p (trail calls (set_up p lent).state) ≡ []
  unfolding woken_in
  nobody-woken calls =
      let held = blank-claim.blank (trimmed p) (trimmed-blank p b) in
      ap (λ (a : After Held). woken_in p (trail calls a.state)) ((blank-claim.blank p b).set lent) ∙ ap (woken_in p) ((held.calls (blank_begun p b lent) refl (blank-begun p b lent)).still calls)

-- and no path or marks to ask for, whichever the modules
module _ (p : Plan) (b : Blank p) where
  pub nobody-between : (u v : ℕ) (out : List ℕ) → (path_between p u v out).answer.refusal ≡ 41
  nobody-between u v out = ap (λ r. r.answer.refusal) ((blank-claim.blank p b).paths u v out)

  pub nobody-near : (m h : ℕ) (out : List ℕ) → (mark_near p m h out).refusal ≡ 41
  nobody-near m h out = ap (λ r. r.refusal) ((blank-claim.blank p b).near m h out)
