-- Trees are read back as they were written.
use Rattle.std.proofs.Common.{◌≡◌, ℕ, suc, ◌+◌, ◌-◌, ◌*◌, ◌%◌, ◌<◌, ◌≤◌, true, ltb, leb, List, [], ◌∷◌, ◌++◌, length, get_or, ℤ, pos, negsuc, nat_abs, unsigned_abs, Ok, refl, ap, ◌∙◌, arith, lit<, lit≤}
use Rattle.std.proofs.lemmas.List.{get_or_append_left, get_or-append-add, length-append}
use Rattle.std.proofs.lemmas.Bool.{and_parts}
use Rattle.std.proofs.lemmas.Int.{ints}
use Rattle.std.proofs.lemmas.Bool.Decides.{nat_tests}
use Rattle.refusal.specs.Ranges.{between}
use Rattle.lattice.specs.Space.{norm, within, ordered}
use Rattle.lattice.specs.declared.Point.{Point}
use Rattle.lattice.specs.declared.TheConstants.{LEAST_COORDINATE, MOST_COORDINATE, MOST_OFFSET}
use Rattle.solid.specs.Body.{Body}
use Rattle.piles.specs.Layers.{shift, thicken}
use Rattle.piles.specs.declared.TheConstants.{LEAST_THICKNESS, MOST_THICKNESS}
use Rattle.leaves.specs.declared.ball.TheConstants.{LEAST_RADIUS, MOST_RADIUS}
use Rattle.words.specs.declared.kind.Kind.TheVariants.{Scene}
use Rattle.words.specs.Words.{kind_word, of_kind}
use Rattle.words.specs.Kinds.{kind_number}
use Rattle.words.specs.Reading.{point_in, point_at, number_in}
use Rattle.words.specs.Encoding.{bytes_of, signed_word}
use Rattle.words.proofs.Back.{EndsFit, bare_back, kind_back, number_in_back, point_back}
use Rattle.scene.specs.declared.table.TheConstants.{MOST_NODES}
use Rattle.readers.specs.declared.scenes.TheConstants.{MOST_WORDS}
use Rattle.readers.specs.declared.kind.NodeKind.{NodeKind}
use Rattle.readers.specs.declared.kind.NodeKind.TheVariants as kind
use Rattle.readers.specs.Kinds.{word_kind, kind_of, number_count, nodes_taken}
use Rattle.readers.specs.Scenes.{is_exact_enough, node_check, lay_at, end_answer, nodes_from, scene_length}
use Rattle.readers.specs.ScenesBack.{Tree, Ball, Box, Unite, Meet, Shift, Thicken, tree_body, node_count, is_placement, is_sound, words_of, point_words, scene_words, ScenesReadBack}
use Rattle.readers.proofs.SceneNodes.{node_is}
use Rattle.readers.proofs.SceneNumbers.{ball_laid, box_laid, shift_laid, thicken_laid}
use Rattle.readers.proofs.SceneTurns.{at_end, a_node}
use Rattle.readers.proofs.SceneEnds.{a_scene}

-- the words vs stand in ws from place k on
abbrev At : List ℕ → ℕ → List ℕ → Type 0
At ws k vs = (i : ℕ) → i < length vs → get_or ws (k + i) 0 ≡ get_or vs i 0

look : (ws vs : List ℕ) (k i j : ℕ) → At ws k vs → i < length vs → j ≡ k + i → get_or ws j 0 ≡ get_or vs i 0
look ws vs k i j at h e = rw e (at i h)

at_left : (ws us vs : List ℕ) (k : ℕ) → At ws k (us ++ vs) → At ws k us
at_left ws us vs k at i h = at i (let l = length-append us vs in omega arith) ∙ get_or_append_left us vs 0 i h

at_right : (ws us vs : List ℕ) (k j : ℕ) → j ≡ k + length us → At ws k (us ++ vs) → At ws j vs
at_right ws us vs k j e at i h =
    let p : j + i ≡ k + (length us + i) = omega arith in
    rw p (at (length us + i) (let l = length-append us vs in omega arith) ∙ get_or-append-add us vs i 0)

-- what comes after a point's words
after_point : (ws us : List ℕ) (p : Point) (k j : ℕ) → j ≡ k + 3 → At ws k (point_words p us) → At ws j us
after_point ws us p k j e at = at_right ws (point_words p []) us k j e at

-- a node's kind is that of its word, which is one from 3 to 8
its_kind : (c : NodeKind) → c ≡ kind_of (kind_number (word_kind c))
its_kind kind.Ball = refl
its_kind _ = refl

its_word : (c : NodeKind) → (3 ≤ kind_number (word_kind c)) × (kind_number (word_kind c) ≤ 8)
its_word kind.Ball = (lit≤ tt, lit≤ tt)
its_word _ = (lit≤ tt, lit≤ tt)

-- the words of a node: its kind's, and its numbers
abbrev node_words : NodeKind → List ℕ → List ℕ
node_words c us = kind_word (word_kind c) 0 ∷ us

its_numbers : (ws us : List ℕ) (c : NodeKind) (k : ℕ) → At ws k (node_words c us) → At ws (k + 1) us
its_numbers ws us c k at = at_right ws (kind_word (word_kind c) 0 ∷ []) us k (k + 1) refl at

module _ (ws rest : List ℕ) (count : ℕ) (room : count < length ws) where
  bs : List ℕ
  bs = bytes_of ws ++ rest

  passed : (k n : ℕ) (c : NodeKind) (s : List Body) → n < MOST_NODES → k + number_count c ≤ count → nodes_taken c ≤ length s
      → is_exact_enough c s ≡ true → node_check count k n c s ≡ Ok tt
  unfolding node_check
  passed k n c s a b d e =
      let p : ltb n 256 ≡ true = grind (arith, nat_tests) in
      let q : leb (k + number_count c) count ≡ true = grind (arith, nat_tests) in
      let r : leb (nodes_taken c) (length s) ≡ true = grind (arith, nat_tests) in
      simp (p, q, r, e)

  -- the words vs, of so many nodes, are read where s stands, and then t stands
  abbrev Leads : List ℕ → (nodes : ℕ) → (s t : List Body) → Type 0
  Leads vs nodes s t =
      (most k n : ℕ) → At ws k vs → k + length vs ≤ count + 1 → n + nodes ≤ MOST_NODES
      → nodes_from (nodes + most) bs count k n s ≡ nodes_from most bs count (k + length vs) (n + nodes) t

  -- one node
  one : (c : NodeKind) (us : List ℕ) (s t : List Body) → length us ≡ number_count c → nodes_taken c ≤ length s
      → is_exact_enough c s ≡ true
      → ((k : ℕ) → At ws k (node_words c us) → k + length us ≤ count → lay_at bs k c s ≡ Ok t)
      → Leads (node_words c us) 1 s t
  unfolding bs
  one c us s t e d f g most k n at h l =
      let r = its_word c in
      let x = bare_back ws rest k (omega arith) (kind_number (word_kind c)) 3 8 (look ws (node_words c us) k 0 k at (omega arith) (omega arith)) (omega arith) r.0 r.1 in
      let y = node_is bs count k n s (kind_number (word_kind c)) c tt x (its_kind c) (passed k n c s (omega arith) (omega arith) d f) in
      let z : nodes_from (suc most) bs count k n s ≡ nodes_from most bs count (k + 1 + number_count c) (n + 1) t = a_node most bs count k n s (omega arith) ∙ simp (y, g k at (omega arith)) in
      let p : 1 + most ≡ suc most = omega arith in
      let q : k + suc (length us) ≡ k + 1 + number_count c = omega arith in
      rw (p, q) z

  -- one after the other
  both : (us vs : List ℕ) (a b c : ℕ) (s t u : List Body) → c ≡ a + b → Leads us a s t → Leads vs b t u
      → Leads (us ++ vs) c s u
  both us vs a b c s t u e x y most k n at h l =
      let m = length-append us vs in
      let p : c + most ≡ a + (b + most) = omega arith in
      let q : k + length (us ++ vs) ≡ k + length us + length vs = omega arith in
      let r : n + c ≡ n + a + b = omega arith in
      rw (p, q, r) (x (b + most) k n (at_left ws us vs k at) (omega arith) (omega arith)
      ∙ y most (k + length us) (n + a) (at_right ws us vs k (k + length us) refl at) (omega arith) (omega arith))

  -- a point and a number, whose words come there
  point_there : (k : ℕ) (lo hi : ℤ) (p : Point) (us : List ℕ) → At ws k (point_words p us) → k + 2 ≤ count → EndsFit lo hi
      → point_in lo hi p ≡ true → point_at bs k lo hi ≡ Ok p
  unfolding bs
  point_there k lo hi p us at h r i =
      let vs = point_words p us in
      point_back ws rest k lo hi p (omega arith) (look ws vs k 0 k at (omega arith) (omega arith)) (look ws vs k 1 (k + 1) at (omega arith) refl) (look ws vs k 2 (k + 2) at (omega arith) refl) r i

  number_there : (k : ℕ) (lo hi n : ℤ) (us : List ℕ) → At ws k (signed_word n ∷ us) → k ≤ count → EndsFit lo hi
      → between lo hi n ≡ true → number_in bs k lo hi ≡ Ok n
  unfolding bs
  number_there k lo hi n us at h r i = number_in_back ws rest k lo hi n (omega arith) (look ws (signed_word n ∷ us) k 0 k at (omega arith) (omega arith)) r i

  -- the numbers of a node
  laid_ball : (k r : ℕ) (p : Point) (s : List Body) → At ws k (words_of (Ball p r)) → k + 4 ≤ count
      → is_sound (Ball p r) ≡ true → lay_at bs k kind.Ball s ≡ Ok (tree_body (Ball p r) ∷ s)
  unfolding lay_at is_sound words_of tree_body
  laid_ball k r p s at h o =
      let w = and_parts (is_placement p) _ o in
      let last = signed_word (pos r) ∷ [] in
      let there = its_numbers ws (point_words p last) kind.Ball k at in
      let x = point_there (k + 1) LEAST_COORDINATE MOST_COORDINATE p last there (omega arith) (refl, refl) w.0 in
      let y = number_there (k + 4) LEAST_RADIUS MOST_RADIUS (pos r) [] (after_point ws last p (k + 1) (k + 4) (omega arith) there) (omega arith) (refl, refl) w.1 in
      simp (x, y, ball_laid p r s w.0 w.1)

  laid_box : (k : ℕ) (lo hi : Point) (s : List Body) → At ws k (words_of (Box lo hi)) → k + 6 ≤ count
      → is_sound (Box lo hi) ≡ true → lay_at bs k kind.Block s ≡ Ok (tree_body (Box lo hi) ∷ s)
  unfolding lay_at is_sound words_of tree_body
  laid_box k lo hi s at h o =
      let w = and_parts (is_placement lo) _ o in
      let v = and_parts (is_placement hi) (ordered lo hi) w.1 in
      let last = point_words hi [] in
      let there = its_numbers ws (point_words lo last) kind.Block k at in
      let x = point_there (k + 1) LEAST_COORDINATE MOST_COORDINATE lo last there (omega arith) (refl, refl) w.0 in
      let y = point_there (k + 4) LEAST_COORDINATE MOST_COORDINATE hi [] (after_point ws last lo (k + 1) (k + 4) (omega arith) there) (omega arith) (refl, refl) v.0 in
      simp (x, y, box_laid lo hi s w.0 v.0 v.1)

  laid_shift : (k : ℕ) (v : Point) (a : Body) (s : List Body) → At ws k (node_words kind.Shift (point_words v []))
      → k + 3 ≤ count → within (unsigned_abs MOST_OFFSET) v ≡ true → leb (norm v) a.reach ≡ true
      → lay_at bs k kind.Shift (a ∷ s) ≡ Ok (shift v a ∷ s)
  unfolding lay_at
  laid_shift k v a s at h o r =
      let x = point_there (k + 1) (negsuc 16382) MOST_OFFSET v [] (its_numbers ws (point_words v []) kind.Shift k at) (omega arith) (refl, refl) (offset_in v o) in
      simp (x, shift_laid v a s o r)
    where
      part : (n : ℤ) → leb (nat_abs n) 16383 ≡ true → between (negsuc 16382) (pos 16383) n ≡ true
      part n l = grind (arith, ints, nat_tests)

      offset_in : (p : Point) → within 16383 p ≡ true → point_in (negsuc 16382) (pos 16383) p ≡ true
      offset_in p l = let x = part p.x (grind arith) in let y = part p.y (grind arith) in let z = part p.z (grind arith) in simp (x, y, z)

  laid_thicken : (k h : ℕ) (a : Body) (s : List Body) → At ws k (node_words kind.Thicken (signed_word (pos h) ∷ []))
      → k + 1 ≤ count → between LEAST_THICKNESS MOST_THICKNESS (pos h) ≡ true → a.exact ≡ true
      → lay_at bs k kind.Thicken (a ∷ s) ≡ Ok (thicken h a ∷ s)
  unfolding lay_at
  laid_thicken k h a s at l o e =
      let x = number_there (k + 1) LEAST_THICKNESS MOST_THICKNESS (pos h) [] (its_numbers ws (signed_word (pos h) ∷ []) kind.Thicken k at) (omega arith) (refl, refl) o in
      simp (x, thicken_laid h a s o e)

  -- what the two that stand last become
  joined : (c : NodeKind) (a b : Tree) (s : List Body) (d : Body) → number_count c ≡ 0 → nodes_taken c ≡ 2
      → is_exact_enough c (tree_body b ∷ tree_body a ∷ s) ≡ true
      → ((k : ℕ) → lay_at bs k c (tree_body b ∷ tree_body a ∷ s) ≡ Ok (d ∷ s))
      → Leads (words_of a) (node_count a) s (tree_body a ∷ s)
      → Leads (words_of b) (node_count b) (tree_body a ∷ s) (tree_body b ∷ tree_body a ∷ s)
      → Leads (words_of a ++ (words_of b ++ node_words c [])) (node_count a + node_count b + 1) s (d ∷ s)
  joined c a b s d p q f g x y =
      let last = one c [] (tree_body b ∷ tree_body a ∷ s) (d ∷ s) (omega arith) (omega arith) f (λ k at h. g k) in
      let more = both (words_of b) (node_words c []) (node_count b) 1 (node_count b + 1) _ _ _ refl y last in
      both (words_of a) (words_of b ++ node_words c []) (node_count a) (node_count b + 1) _ _ _ _ (omega arith) x more

  reads : (t : Tree) (s : List Body) → is_sound t ≡ true → Leads (words_of t) (node_count t) s (tree_body t ∷ s)
  unfolding node_count words_of tree_body is_sound lay_at
  reads (Ball p r) s o = one kind.Ball (point_words p (signed_word (pos r) ∷ [])) s _ refl (omega arith) refl (λ k at h. laid_ball k r p s at h o)
  reads (Box lo hi) s o = one kind.Block (point_words lo (point_words hi [])) s _ refl (omega arith) refl (λ k at h. laid_box k lo hi s at h o)
  reads (Unite a b) s o =
      let os = and_parts (is_sound a) (is_sound b) o in
      joined kind.Unite a b s _ refl refl refl (λ k. refl) (reads a s os.0) (reads b (tree_body a ∷ s) os.1)
  reads (Meet a b) s o =
      let os = and_parts (is_sound a) (is_sound b) o in
      joined kind.Meet a b s _ refl refl refl (λ k. refl) (reads a s os.0) (reads b (tree_body a ∷ s) os.1)
  reads (Shift v a) s o =
      let os = and_parts (is_sound a) _ o in
      let ts = and_parts (within (unsigned_abs MOST_OFFSET) v) (leb (norm v) (tree_body a).reach) os.1 in
      let last = one kind.Shift (point_words v []) (tree_body a ∷ s) _ refl (omega arith) refl (λ k at h. laid_shift k v (tree_body a) s at h ts.0 ts.1) in
      both (words_of a) (node_words kind.Shift (point_words v [])) (node_count a) 1 (node_count a + 1) _ _ _ refl (reads a s os.0) last
  reads (Thicken h a) s o =
      let os = and_parts (is_sound a) _ o in
      let ts = and_parts (between LEAST_THICKNESS MOST_THICKNESS (pos h)) (tree_body a).exact os.1 in
      let last = one kind.Thicken (signed_word (pos h) ∷ []) (tree_body a ∷ s) _ refl (omega arith) ts.1 (λ k at l. laid_thicken k h (tree_body a) s at l ts.0 ts.1) in
      both (words_of a) (node_words kind.Thicken (signed_word (pos h) ∷ [])) (node_count a) 1 (node_count a + 1) _ _ _ refl (reads a s os.0) last

-- a node has one word, and at most six numbers
abbrev Few : List ℕ → (nodes : ℕ) → Type 0
Few vs nodes = (length vs ≤ 7 * nodes) × (nodes ≤ length vs) × (1 ≤ nodes)

few_both : (us vs : List ℕ) (a b c : ℕ) → c ≡ a + b → Few us a → Few vs b → Few (us ++ vs) c
few_both us vs a b c e x y = let l = length-append us vs in (omega arith, omega arith, omega arith)

few : (t : Tree) → Few (words_of t) (node_count t)
unfolding node_count words_of
few (Ball p r) = (lit≤ tt, lit≤ tt, lit≤ tt)
few (Box lo hi) = (lit≤ tt, lit≤ tt, lit≤ tt)
few (Unite a b) = few_both (words_of a) _ (node_count a) (node_count b + 1) _ (omega arith) (few a) (few_both (words_of b) (node_words kind.Unite []) (node_count b) 1 _ refl (few b) (lit≤ tt, lit≤ tt, lit≤ tt))
few (Meet a b) = few_both (words_of a) _ (node_count a) (node_count b + 1) _ (omega arith) (few a) (few_both (words_of b) (node_words kind.Meet []) (node_count b) 1 _ refl (few b) (lit≤ tt, lit≤ tt, lit≤ tt))
few (Shift v a) = few_both (words_of a) (node_words kind.Shift (point_words v [])) (node_count a) 1 _ refl (few a) (lit≤ tt, lit≤ tt, lit≤ tt)
few (Thicken h a) = few_both (words_of a) (node_words kind.Thicken (signed_word (pos h) ∷ [])) (node_count a) 1 _ refl (few a) (lit≤ tt, lit≤ tt, lit≤ tt)

count_back : (ws rest : List ℕ) (n : ℕ) → 1 ≤ n → n ≤ MOST_WORDS
    → scene_length (bytes_of (kind_word Scene n ∷ ws) ++ rest) ≡ Ok n
unfolding scene_length
count_back ws rest n l m =
    let e : n % 268435456 ≡ n = omega arith in
    let k = kind_back (kind_word Scene n ∷ ws) rest 0 (omega arith) 1 1 1 n (ap (of_kind 1) e) (lit< tt) (omega arith) (lit≤ tt) (lit≤ tt) in
    let a : leb 1 n ≡ true = grind (arith, nat_tests) in
    let b : leb n 1792 ≡ true = grind (arith, nat_tests) in
    simp (k, a, b)

pub scenes_back : ScenesReadBack
unfolding bs end_answer
scenes_back t rest o h =
    let f = few t in
    let n = length (words_of t) in
    let text = bytes_of (scene_words t) ++ rest in
    let e : n ≡ node_count t + (n - node_count t) = omega arith in
    let r : nodes_from n text n 1 0 [] ≡ nodes_from (n - node_count t) text n (1 + n) (0 + node_count t) (tree_body t ∷ []) = ap (λ m. nodes_from m text n 1 0 []) e ∙ reads (scene_words t) rest n (omega arith) t [] o (n - node_count t) 1 0 (λ i l. let e : 1 + i ≡ suc i = omega arith in rw e refl) (omega arith) (omega arith) in
    a_scene text n (tree_body t) (count_back (words_of t) rest n (omega arith) (omega arith)) (r ∙ at_end (n - node_count t) text n (1 + n) (0 + node_count t) (tree_body t ∷ []) (omega arith))
