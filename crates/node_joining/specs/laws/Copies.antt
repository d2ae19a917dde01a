-- An Initiate's copies, where m are the node's marks (`tell-found`, `tell-find`, `initiate-refused`, `initiate-searches`).
use Rattle.std.specs.Prelude.{ℕ, ◌+◌, ◌<◌, ◌≤◌, ◌≡◌, ◌≢◌, true, false, cond, List, eqb, None}
use Rattle.std.proofs.Common.{arith, true≢false, sym, ap, ◌∙◌, eq-eqb, ne_eqb}
use Rattle.format_message.specs.Msg.{none, initiate}
use Rattle.node.specs.declared.Node.{Node}
use Rattle.node.specs.Work.{Own, Send, FIND, FOUND, number, branches, degree, refused, with_node, set_count}
use Rattle.node.specs.Rules.{told, seek, do_test, on_initiate}
use Rattle.node.proofs.laws.Rules.{initiate-find, seek-refused, seek-tests}
use Rattle.node_edges.proofs.laws.Edges.{marked-none}
use Rattle.node_response.specs.declared.Response.{Response}
use Rattle.node_response.specs.Response.{work_of, Does}
use Rattle.node_joining.specs.Copies.{copies_in}
use Rattle.node_response.proofs.laws.Response.{does-then, told-as, tells_all, sets-node}

-- as an Initiate leaves a node
abbrev pub informed_as : ℕ → ℕ → ℕ → ℕ → Node → Node
informed_as status l f j n =
    record { status = status; level = l; identity = f; weight = none; best = none; test = n.test; branch = j; count = n.count; halted = n.halted; waking = n.waking }

module _ (o : Own) (m : ℕ → ℕ) (a : Response) (clean : a.newmark ≡ None) where
  -- the count of the branches
  pub count-branches : (cs : List Send) (j k : ℕ) → number o (branches j (work_of m cs a).mark) k ≡ number o (branches j m) k
  count-branches cs j k = rw (marked-none m a.newmark clean)

  module _ (l f find j : ℕ) (c : a.copies ≡ false) (x : a.first ≡ None) (y : a.second ≡ None) where
    does-tell : (status : ℕ) → status ≡ cond (eqb find 1) FIND FOUND
        → Does m (copies_in o j (initiate l f find) m) (told o l f find j) a
        (record { answer = a.answer; node = informed_as status l f j a.node; newmark = a.newmark; copies = true; first = a.first; second = a.second })
    does-tell status e =
        told-as (does-then (tells_all m _ _ (λ h. true≢false (sym h ∙ c)) x y) (sets-node m _ a (informed_as status l f j a.node)))
        (rw (marked-none m a.newmark clean, e))

    pub tell-found : find ≢ 1
        → Does m (copies_in o j (initiate l f find) m) (told o l f find j) a
        (record { answer = a.answer; node = informed_as FOUND l f j a.node; newmark = a.newmark; copies = true; first = a.first; second = a.second })
    tell-found h = does-tell FOUND (rw (ne_eqb _ _ h))

    pub tell-find : find ≡ 1
        → Does m (copies_in o j (initiate l f find) m) (told o l f find j) a
        (record { answer = a.answer; node = informed_as FIND l f j a.node; newmark = a.newmark; copies = true; first = a.first; second = a.second })
    tell-find h = does-tell FIND (rw (eq-eqb _ _ h))

-- find-count with the branches, as they were counted: n branches, d own edges, s in all
module _ (o : Own) (m : ℕ → ℕ) (cs : List Send) (a : Response) (l f find j n d s : ℕ)
    (clean : a.newmark ≡ None) (h : find ≡ 1) (en : n ≡ number o (branches j m) (o.edges)) (ed : d ≡ degree o) (es : s ≡ a.node.count + n) where
  total : s ≡ a.node.count + number o (branches j (work_of m cs a).mark) (o.edges)
  total = omega (arith, es, en, count-branches o m a clean cs j (o.edges))

  pub initiate-refused : d < s → on_initiate o l f find j (work_of m cs a) ≡ refused (told o l f find j (work_of m cs a))
  initiate-refused lt = initiate-find o l f find j _ h ∙ seek-refused o _ _ (omega (arith, total))

  pub initiate-searches : s ≤ d
      → on_initiate o l f find j (work_of m cs a) ≡ do_test o (with_node (set_count s (informed_as FIND l f j a.node)) (told o l f find j (work_of m cs a)))
  initiate-searches le =
      initiate-find o l f find j _ h ∙ ap (λ x. seek o x (told o l f find j (work_of m cs a))) (sym total) ∙ seek-tests o s _ (omega arith)
      ∙ ap (λ x. do_test o (with_node (set_count s (informed_as x l f j a.node)) (told o l f find j (work_of m cs a)))) (rw (eq-eqb _ _ h))
