-- Runs of programs beside those of their graphs: the ends are those that a second implementation gives.
use Rattle.std.proofs.Common.{◌≡◌, ℕ, [], ◌∷◌, Option, Some, None, true, false, refl, ℤ}
use Rattle.std.specs.Prelude.{pos, negsuc}
use Rattle.pk_ctypes.specs.declared.places.Pos.{Pos}
use Rattle.pk_ctypes.specs.declared.types.IntType.TheVariants as c
use Rattle.pk_ctypes.specs.declared.types.Op.TheVariants as o
use Rattle.pk_ctypes.specs.declared.faults.Fault.TheVariants as e
use Rattle.pk_typed.specs.declared.values.Variable.TheVariants.{File, Local}
use Rattle.pk_typed.specs.Trees as tree
use Rattle.pk_graph.specs.declared.trees.Site.{Site}
use Rattle.pk_graph.specs.Steps.{failure}
use Rattle.pk_meaning.specs.Programs.{Program}
use Rattle.pk_meaning_checks.specs.Compared.{End, Answer, compared, Fails, Leaves, Halts}
use Rattle.pk_typed.specs.Types.{type_of}
use Rattle.pk_calls.specs.Calls.{body_of, name_of, calls_of}
use Rattle.pk_lower_expression.specs.Expressions.{target, ways, performed, passed}
use Rattle.pk_lower_statement.specs.Statements.{items, all_declared, case_tests, lowered, lowered_items}
use Rattle.pk_lower.specs.Parts.{all_introduced, body_draft, part, sizes_of, parts_from}
use Rattle.pk_number.specs.Preorders.{preorder}

abbrev p : ℕ → ℕ → Pos
p l k = record { line = l; column = k }

abbrev s : ℕ → ℕ → ℕ → Site
s path l k = record { path = path; at = p l k }

-- both end so, and have the same visits
abbrev both : End → Answer
both e = record { program = e; graph = e; same = true }

-- the same where the program leaves the entry with a result
abbrev left : Option ℤ → Answer
left r = record { program = Leaves r; graph = Leaves None; same = true }

-- ```
-- int f(int p,int q){return p;} int g(int p,int q,int r){return r;} int main(int a){ int b=a; int c=g(a+1,f(b,b+2),a*3); if(a>5) return f(c,1/0); if(a>1) return g(f(c,a),2,1/(a-a)); return f(1,f(2,1/0)); }
-- ```
program_arguments : Program
program_arguments = record {
  unit = (record {
    objects = ([]);
    functions = (record {
      name = (102 ∷ []);
      returns = (Some c.Int);
      parameters = (c.Int ∷ c.Int ∷ []);
      body = (Some (record {
        opened = (p 1
            19);
        closed = (p 1 29);
        locals = ((record { name = (Some (112 ∷ [])); int_type = c.Int; length = None }) ∷ (record { name = (Some (113 ∷ [])); int_type = c.Int; length = None }) ∷ []);
        visible =
            0;
        labels = 0;
        calls = [];
        items = (tree.statement_before (tree.return (p 1 20) (Some (tree.read (tree.scalar c.Int (Local 0))))) tree.no_items);
      }));
    } ∷ record {
      name = (103 ∷ []);
      returns = (Some
          c.Int);
      parameters = (c.Int ∷ c.Int ∷ c.Int ∷ []);
      body = (Some (record {
        opened = (p 1 55);
        closed = (p 1 65);
        locals = ((record { name = (Some (112 ∷ [])); int_type = c.Int; length = None }) ∷
            (record { name = (Some (113 ∷ [])); int_type = c.Int; length = None }) ∷ (record { name = (Some (114 ∷ [])); int_type = c.Int; length = None }) ∷ []);
        visible = 0;
        labels = 0;
        calls = [];
        items =
            (tree.statement_before (tree.return (p 1 56) (Some (tree.read (tree.scalar c.Int (Local 2))))) tree.no_items);
      }));
    } ∷ record {
      name = (109 ∷ 97 ∷ 105 ∷ 110 ∷ []);
      returns = (Some c.Int);
      parameters = (c.Int ∷ []);
      body = (Some (record {
        opened = (p 1 82);
        closed = (p 1 203);
        locals = ((record { name = (Some (97 ∷ [])); int_type = c.Int; length = None }) ∷ (record {
          name = (Some
              (98 ∷ []));
          int_type = c.Int;
          length = None;
        }) ∷ (record { name = (Some (99 ∷ [])); int_type = c.Int; length = None }) ∷ []);
        visible = 0;
        labels = 0;
        calls = ((record {
          function = 1;
          at = (p 1
              99);
        }) ∷ (record { function = 0; at = (p 1 105) }) ∷ (record { function = 0; at = (p 1 135) }) ∷ (record { function = 1; at = (p 1 160) }) ∷ (record { function = 0; at = (p 1 162) }) ∷ (record {
          function = 0;
          at = (p 1 188);
        }) ∷ (record { function = 0; at = (p 1 192) }) ∷ []);
        items = (tree.declared_before (tree.scalar_object 1 (p 1 88) (Some (tree.read (tree.scalar c.Int (Local 0)))))
            (tree.declared_before (tree.scalar_object 2 (p 1 97) (Some (tree.call c.Int 1 0 (p 1 99) (tree.value_before (tree.binary o.Add (p 1 102) c.Int (tree.read (tree.scalar c.Int (Local 0)))
            (tree.constant c.Int (pos 1))) (tree.value_before (tree.call c.Int 0 1 (p 1 105) (tree.value_before (tree.read (tree.scalar c.Int (Local 1))) (tree.value_before (tree.binary o.Add (p 1 110) c.Int
            (tree.read (tree.scalar c.Int (Local 1))) (tree.constant c.Int (pos 2))) tree.no_values))) (tree.value_before (tree.binary o.Mul (p 1 115) c.Int (tree.read (tree.scalar c.Int (Local 0)))
            (tree.constant c.Int (pos 3))) tree.no_values)))))) (tree.statement_before (tree.if_then (p 1 120) (tree.binary o.Gt (p 1 124) c.Int (tree.read (tree.scalar c.Int (Local 0))) (tree.constant c.Int
            (pos 5))) (tree.return (p 1 128) (Some (tree.call c.Int 0 2 (p 1 135) (tree.value_before (tree.read (tree.scalar c.Int (Local 2))) (tree.value_before (tree.binary o.Div (p 1 140) c.Int
            (tree.constant c.Int (pos 1)) (tree.constant c.Int (pos 0))) tree.no_values)))))) (tree.statement_before (tree.if_then (p 1 145) (tree.binary o.Gt (p 1 149) c.Int (tree.read (tree.scalar c.Int
            (Local 0))) (tree.constant c.Int (pos 1))) (tree.return (p 1 153) (Some (tree.call c.Int 1 3 (p 1 160) (tree.value_before (tree.call c.Int 0 4 (p 1 162) (tree.value_before (tree.read (tree.scalar
            c.Int (Local 2))) (tree.value_before (tree.read (tree.scalar c.Int (Local 0))) tree.no_values))) (tree.value_before (tree.constant c.Int (pos 2)) (tree.value_before (tree.binary o.Div (p 1 172)
            c.Int (tree.constant c.Int (pos 1)) (tree.binary o.Sub (p 1 175) c.Int (tree.read (tree.scalar c.Int (Local 0))) (tree.read (tree.scalar c.Int (Local 0))))) tree.no_values)))))))
            (tree.statement_before (tree.return (p 1 181) (Some (tree.call c.Int 0 5 (p 1 188) (tree.value_before (tree.constant c.Int (pos 1)) (tree.value_before (tree.call c.Int 0 6 (p 1 192)
            (tree.value_before (tree.constant c.Int (pos 2)) (tree.value_before (tree.binary o.Div (p 1 197) c.Int (tree.constant c.Int (pos 1)) (tree.constant c.Int (pos 0))) tree.no_values)))
            tree.no_values))))) tree.no_items)))));
      }));
    } ∷ []);
  });
  paths = (record { function = 2; caller = None } ∷ record { function = 1; caller = (Some (record { path = 0; call = 0 })) } ∷ record {
    function = 0;
    caller = (Some (record { path = 0; call = 1 }));
  } ∷ record { function = 0; caller = (Some (record { path = 0; call = 2 })) } ∷ record {
    function = 1;
    caller = (Some (record {
      path =
          0;
      call = 3;
    }));
  } ∷ record { function = 0; caller = (Some (record { path = 0; call = 4 })) } ∷ record { function = 0; caller = (Some (record { path = 0; call = 5 })) } ∷ record {
    function = 0;
    caller = (Some (record { path = 0; call = 6 }));
  } ∷ []);
}

run_arguments_1 : compared 1000 program_arguments ((pos 106) ∷ (pos 0) ∷ (pos 4) ∷ (pos 155) ∷ (pos 1) ∷ (pos 391316429078528) ∷ (pos 523027651493888) ∷ (pos 213) ∷ (pos 1) ∷ (pos 2) ∷ (pos 0) ∷ (pos
    620) ∷ (pos 1) ∷ (pos 0) ∷ (negsuc 168) ∷ (pos 790570092986368) ∷ (pos 668082013995008) ∷ (pos 0) ∷ (pos 1006194700320768) ∷ (negsuc 0) ∷ (pos 0) ∷ (pos 1) ∷ (pos 197447964950528) ∷ (pos
    1242737633394688) ∷ (pos 1) ∷ (negsuc 289) ∷ (pos 1962252040142848) ∷ (pos 1) ∷ (pos 547) ∷ (pos 0) ∷ (pos 0) ∷ (pos 0) ∷ (pos 1) ∷ (pos 4) ∷ (negsuc 0) ∷ (pos 1) ∷ (pos 0) ∷ (pos 673101872365568)
    ∷ (pos 1) ∷ (pos 1968138672406528) ∷ []) ≡ both (Fails (failure e.DivZero (s 0 1 140)))
unfolding program_arguments type_of body_of name_of calls_of target ways performed passed items all_declared case_tests lowered lowered_items all_introduced body_draft part sizes_of parts_from
    preorder
run_arguments_1 = refl

run_arguments_2 : compared 1000 program_arguments ((pos 0) ∷ (pos 1) ∷ (pos 0) ∷ (pos 0) ∷ (pos 507) ∷ (pos 0) ∷ (pos 0) ∷ (pos 1) ∷ (pos 446) ∷ (pos 1378882025422848) ∷ (pos 5) ∷ (pos
    1626116679794688) ∷ (pos 0) ∷ (pos 1) ∷ (pos 1) ∷ (pos 3) ∷ (pos 1) ∷ (pos 877217666039808) ∷ (pos 352) ∷ (pos 787212846235648) ∷ (pos 2) ∷ (pos 0) ∷ (pos 0) ∷ (pos 1) ∷ (negsuc 0) ∷ (negsuc 1) ∷
    (negsuc 45) ∷ (pos 0) ∷ (pos 3) ∷ (pos 1096513474265088) ∷ (pos 1) ∷ (pos 5) ∷ (pos 238312911536128) ∷ (pos 1) ∷ (pos 1) ∷ (pos 0) ∷ (pos 2) ∷ (negsuc 49398244442111) ∷ (pos 6) ∷ (pos 1) ∷ []) ≡
    both (Fails (failure e.DivZero (s 0 1 197)))
unfolding program_arguments type_of body_of name_of calls_of target ways performed passed items all_declared case_tests lowered lowered_items all_introduced body_draft part sizes_of parts_from
    preorder
run_arguments_2 = refl

run_arguments_3 : compared 1000 program_arguments ((pos 298858292707328) ∷ (pos 1359908037459968) ∷ (pos 291212611289088) ∷ (pos 1) ∷ (pos 3) ∷ (pos 1) ∷ (pos 0) ∷ (pos 1) ∷ (pos 121) ∷ (pos 202) ∷
    (pos 2) ∷ (pos 2) ∷ (pos 1) ∷ (pos 0) ∷ (pos 1) ∷ (pos 0) ∷ (pos 3) ∷ (negsuc 97) ∷ (pos 940812531662848) ∷ (negsuc 17220346314751) ∷ (pos 1) ∷ (pos 0) ∷ (pos 1) ∷ (pos 0) ∷ (pos 1415950424342528)
    ∷ (pos 837354036133888) ∷ (pos 1009844169474048) ∷ (pos 84) ∷ (pos 4) ∷ (pos 1) ∷ (pos 1929712766025728) ∷ (pos 0) ∷ (pos 0) ∷ (pos 1) ∷ (pos 1) ∷ (pos 1) ∷ (pos 779947787419648) ∷ (pos 1) ∷ (pos
    2) ∷ (pos 0) ∷ []) ≡ both (Fails (failure e.Overflow (s 0 1 115)))
unfolding program_arguments type_of body_of name_of calls_of target ways performed passed items all_declared case_tests lowered lowered_items all_introduced body_draft part sizes_of parts_from
    preorder
run_arguments_3 = refl

-- ```
-- int g;
-- int f(int p,int q){return p;}
-- int h(char c){ g=c; if(c) return c; }
-- void v(int n){ g+=n; }
-- void w(void){ return; }
-- int k(int n){ int loc=n+f(n,g); L: if(loc<n) goto L; return h(loc); }
-- int main(void){ int x=f(1,1/0); x=f(x,f(x+1,g++)); f(1,2)+f(3,4); v(x); w(); x=k(h(x))+g; h(300); (char)h(1); (x?v(1),2:f(1,x)); return k(2); }
-- ```
program_calls : Program
program_calls = record {
  unit = (record {
    objects = (record { name = (103 ∷ []); int_type = c.Int; start = (tree.scalar_start (pos 0)) } ∷ []);
    functions = (record {
      name = (102 ∷ []);
      returns = (Some
          c.Int);
      parameters = (c.Int ∷ c.Int ∷ []);
      body = (Some (record {
        opened = (p 2 19);
        closed = (p 2 29);
        locals = ((record { name = (Some (112 ∷ [])); int_type = c.Int; length = None }) ∷ (record {
          name = (Some (113 ∷ []));
          int_type = c.Int;
          length = None;
        }) ∷ []);
        visible = 1;
        labels = 0;
        calls = [];
        items = (tree.statement_before (tree.return (p 2 20) (Some (tree.read (tree.scalar c.Int
            (Local 0))))) tree.no_items);
      }));
    } ∷ record {
      name = (104 ∷ []);
      returns = (Some c.Int);
      parameters = (c.Char ∷ []);
      body = (Some (record {
        opened = (p 3 14);
        closed = (p 3 37);
        locals = ((record
            { name = (Some (99 ∷ [])); int_type = c.Char; length = None }) ∷ []);
        visible = 1;
        labels = 0;
        calls = [];
        items = (tree.statement_before (tree.effect (p 3 16) (tree.unused (tree.assign (p 0 0)
            (tree.scalar c.Int (File 0)) (tree.read (tree.scalar c.Char (Local 0)))))) (tree.statement_before (tree.if_then (p 3 21) (tree.read (tree.scalar c.Char (Local 0))) (tree.return (p 3 27) (Some
            (tree.read (tree.scalar c.Char (Local 0)))))) tree.no_items));
      }));
    } ∷ record {
      name = (118 ∷ []);
      returns = None;
      parameters = (c.Int ∷ []);
      body = (Some (record {
        opened = (p 4 14);
        closed = (p 4
            22);
        locals = ((record { name = (Some (110 ∷ [])); int_type = c.Int; length = None }) ∷ []);
        visible = 1;
        labels = 0;
        calls = [];
        items = (tree.statement_before (tree.effect (p 4 16) (tree.unused
            (tree.update o.Add (p 4 17) c.Int (tree.scalar c.Int (File 0)) (tree.read (tree.scalar c.Int (Local 0)))))) tree.no_items);
      }));
    } ∷ record {
      name = (119 ∷ []);
      returns = None;
      parameters = [];
      body
          = (Some (record { opened = (p 5 13); closed = (p 5 23); locals = []; visible = 1; labels = 0; calls = []; items = (tree.statement_before (tree.return (p 5 15) None) tree.no_items) }));
    } ∷ record {
      name = (107 ∷ []);
      returns = (Some c.Int);
      parameters = (c.Int ∷ []);
      body = (Some (record {
        opened = (p 6 13);
        closed = (p 6 69);
        locals = ((record {
          name = (Some (110 ∷ []));
          int_type = c.Int;
          length = None;
        }) ∷ (record { name = (Some (108 ∷ 111 ∷ 99 ∷ [])); int_type = c.Int; length = None }) ∷ []);
        visible = 1;
        labels = 1;
        calls = ((record { function = 0; at = (p 6 25) }) ∷ (record {
          function = 1;
          at = (p 6 61);
        }) ∷ []);
        items = (tree.declared_before (tree.scalar_object 1 (p 6 19) (Some (tree.binary o.Add (p 6 24) c.Int (tree.read (tree.scalar c.Int (Local 0))) (tree.call
            c.Int 0 0 (p 6 25) (tree.value_before (tree.read (tree.scalar c.Int (Local 0))) (tree.value_before (tree.read (tree.scalar c.Int (File 0))) tree.no_values)))))) (tree.statement_before (tree.label
            (p 6 33) 0 (tree.if_then (p 6 36) (tree.binary o.Lt (p 6 42) c.Int (tree.read (tree.scalar c.Int (Local 1))) (tree.read (tree.scalar c.Int (Local 0)))) (tree.goto (p 6 46) 0)))
            (tree.statement_before (tree.return (p 6 54) (Some (tree.call c.Int 1 1 (p 6 61) (tree.value_before (tree.read (tree.scalar c.Int (Local 1))) tree.no_values)))) tree.no_items)));
      }));
    } ∷ record {
      name = (109 ∷ 97 ∷ 105 ∷ 110 ∷ []);
      returns = (Some c.Int);
      parameters = [];
      body = (Some (record {
        opened = (p 7 15);
        closed = (p 7 143);
        locals = ((record {
          name = (Some (120 ∷ []));
          int_type =
              c.Int;
          length = None;
        }) ∷ []);
        visible = 1;
        labels = 0;
        calls = ((record { function = 0; at = (p 7 23) }) ∷ (record { function = 0; at = (p 7 35) }) ∷ (record { function = 0; at = (p 7 39) }) ∷
            (record { function = 0; at = (p 7 52) }) ∷ (record { function = 0; at = (p 7 59) }) ∷ (record { function = 2; at = (p 7 67) }) ∷ (record { function = 3; at = (p 7 73) }) ∷ (record {
              function = 4;
              at = (p 7 80);
            }) ∷ (record { function = 1; at = (p 7 82) }) ∷ (record { function = 1; at = (p 7 91) }) ∷ (record { function = 1; at = (p 7 105) }) ∷ (record { function = 2; at = (p 7 114) }) ∷
            (record { function = 0; at = (p 7 121) }) ∷ (record { function = 4; at = (p 7 137) }) ∷ []);
        items = (tree.declared_before (tree.scalar_object 0 (p 7 21) (Some (tree.call c.Int 0 0 (p 7 23)
            (tree.value_before (tree.constant c.Int (pos 1)) (tree.value_before (tree.binary o.Div (p 7 28) c.Int (tree.constant c.Int (pos 1)) (tree.constant c.Int (pos 0))) tree.no_values)))))
            (tree.statement_before (tree.effect (p 7 33) (tree.unused (tree.assign (p 0 0) (tree.scalar c.Int (Local 0)) (tree.call c.Int 0 1 (p 7 35) (tree.value_before (tree.read (tree.scalar c.Int (Local
            0))) (tree.value_before (tree.call c.Int 0 2 (p 7 39) (tree.value_before (tree.binary o.Add (p 7 42) c.Int (tree.read (tree.scalar c.Int (Local 0))) (tree.constant c.Int (pos 1)))
            (tree.value_before (tree.step o.Add (p 7 46) c.Int (tree.scalar c.Int (File 0)) false) tree.no_values))) tree.no_values)))))) (tree.statement_before (tree.effect (p 7 52) (tree.unused (tree.binary
            o.Add (p 7 58) c.Int (tree.call c.Int 0 3 (p 7 52) (tree.value_before (tree.constant c.Int (pos 1)) (tree.value_before (tree.constant c.Int (pos 2)) tree.no_values))) (tree.call c.Int 0 4 (p 7 59)
            (tree.value_before (tree.constant c.Int (pos 3)) (tree.value_before (tree.constant c.Int (pos 4)) tree.no_values)))))) (tree.statement_before (tree.effect (p 7 67) (tree.run 2 5 (p 7 67)
            (tree.value_before (tree.read (tree.scalar c.Int (Local 0))) tree.no_values))) (tree.statement_before (tree.effect (p 7 73) (tree.run 3 6 (p 7 73) tree.no_values)) (tree.statement_before
            (tree.effect (p 7 78) (tree.unused (tree.assign (p 0 0) (tree.scalar c.Int (Local 0)) (tree.binary o.Add (p 7 87) c.Int (tree.call c.Int 4 7 (p 7 80) (tree.value_before (tree.call c.Int 1 8 (p 7
            82) (tree.value_before (tree.read (tree.scalar c.Int (Local 0))) tree.no_values)) tree.no_values)) (tree.read (tree.scalar c.Int (File 0))))))) (tree.statement_before (tree.effect (p 7 91)
            (tree.unused (tree.call c.Int 1 9 (p 7 91) (tree.value_before (tree.constant c.Int (pos 300)) tree.no_values)))) (tree.statement_before (tree.effect (p 7 99) (tree.unused (tree.convert c.Char
            (tree.call c.Int 1 10 (p 7 105) (tree.value_before (tree.constant c.Int (pos 1)) tree.no_values))))) (tree.statement_before (tree.effect (p 7 111) (tree.unused (tree.conditional c.Int (tree.read
            (tree.scalar c.Int (Local 0))) (tree.then_value (tree.run 2 11 (p 7 114) (tree.value_before (tree.constant c.Int (pos 1)) tree.no_values)) (tree.constant c.Int (pos 2))) (tree.call c.Int 0 12 (p 7
            121) (tree.value_before (tree.constant c.Int (pos 1)) (tree.value_before (tree.read (tree.scalar c.Int (Local 0))) tree.no_values)))))) (tree.statement_before (tree.return (p 7 130) (Some
            (tree.call c.Int 4 13 (p 7 137) (tree.value_before (tree.constant c.Int (pos 2)) tree.no_values)))) tree.no_items))))))))));
      }));
    } ∷ []);
  });
  paths = (record { function = 5; caller = None } ∷ record
      { function = 0; caller = (Some (record { path = 0; call = 0 })) } ∷ record { function = 0; caller = (Some (record { path = 0; call = 1 })) } ∷ record {
        function = 0;
        caller = (Some (record {
          path
              = 0;
          call = 2;
        }));
      } ∷ record { function = 0; caller = (Some (record { path = 0; call = 3 })) } ∷ record { function = 0; caller = (Some (record { path = 0; call = 4 })) } ∷ record {
        function = 2;
        caller = (Some (record { path = 0; call = 5 }));
      } ∷ record { function = 3; caller = (Some (record { path = 0; call = 6 })) } ∷ record {
        function = 4;
        caller = (Some (record {
          path = 0;
          call = 7;
        }));
      } ∷ record { function = 1; caller = (Some (record { path = 0; call = 8 })) } ∷ record { function = 1; caller = (Some (record { path = 0; call = 9 })) } ∷ record {
        function = 1;
        caller = (Some
            (record { path = 0; call = 10 }));
      } ∷ record { function = 2; caller = (Some (record { path = 0; call = 11 })) } ∷ record { function = 0; caller = (Some (record { path = 0; call = 12 })) } ∷ record
      { function = 4; caller = (Some (record { path = 0; call = 13 })) } ∷ record { function = 0; caller = (Some (record { path = 8; call = 0 })) } ∷ record {
        function = 1;
        caller = (Some (record {
          path
              = 8;
          call = 1;
        }));
      } ∷ record { function = 0; caller = (Some (record { path = 14; call = 0 })) } ∷ record { function = 1; caller = (Some (record { path = 14; call = 1 })) } ∷ []);
}

run_calls_1 : compared 1000 program_calls ((pos 688) ∷ (pos 3) ∷ (pos 0) ∷ (pos 1) ∷ (pos 1) ∷ (pos 510) ∷ (pos 0) ∷ (pos 238250636607488) ∷ (pos 1038642208309248) ∷ (pos 0) ∷ (negsuc 1) ∷ (pos
    287435021877248) ∷ (pos 1) ∷ (pos 678) ∷ (pos 397) ∷ (pos 0) ∷ (negsuc 19) ∷ (pos 1577870791016448) ∷ (pos 1) ∷ (pos 0) ∷ (pos 3) ∷ (pos 0) ∷ (negsuc 236) ∷ (pos 169) ∷ (pos 2) ∷ (pos 6) ∷ (pos 0)
    ∷ (pos 257) ∷ (pos 1070938155122688) ∷ (pos 561254999523328) ∷ (pos 531) ∷ (pos 0) ∷ (pos 0) ∷ (pos 260) ∷ (pos 5) ∷ (pos 0) ∷ (pos 1) ∷ (negsuc 24) ∷ (pos 1) ∷ (pos 867536525590528) ∷ []) ≡ both
    (Fails (failure e.DivZero (s 0 7 28)))
unfolding program_calls type_of body_of name_of calls_of target ways performed passed items all_declared case_tests lowered lowered_items all_introduced body_draft part sizes_of parts_from preorder
run_calls_1 = refl

-- ```
-- int t[4]={1,2}; char b[10];
-- int main(void){
--  int i=0; int j; unsigned u; int a[3]={i,i+1}; int d[2];
--  t[0]=i; t[i]=t[i+1]; t[i+1]=j=2; i=t[i]=3; i=(t[i+1]=4)+1; t[i]+=i+1; t[i+1]+=2; t[i]+=d[0];
--  i=t[i]++; i=++t[i]; t[i]--; --t[i+1]; i=t[i+1]--; t[0]+(u=1); b[i]=300; j=(b[i]+=i); i=b[t[0]]++; b[t[i]]=t[i+1]; t[i++]=j; u=t[i+1]*=j*2;
--  t[0]+(i,2); i=(t[0]=1,5); t[i]+=(j=2); t[i+1]*=d[j++];
--  return a[1]+d[0];}
-- ```
program_elements : Program
program_elements = record {
  unit = (record {
    objects = (record { name = (116 ∷ []); int_type = c.Int; start = (tree.array_start 4 ((pos 1) ∷ (pos 2) ∷ [])) } ∷ record {
      name = (98 ∷ []);
      int_type =
          c.Char;
      start = (tree.array_start 10 []);
    } ∷ []);
    functions = (record {
      name = (109 ∷ 97 ∷ 105 ∷ 110 ∷ []);
      returns = (Some c.Int);
      parameters = [];
      body = (Some (record {
        opened = (p 2 15);
        closed = (p 7 19);
        locals = ((record { name = (Some (105 ∷ [])); int_type = c.Int; length = None }) ∷ (record { name = (Some (106 ∷ [])); int_type = c.Int; length = None }) ∷ (record {
          name =
              (Some (117 ∷ []));
          int_type = c.UInt;
          length = None;
        }) ∷ (record { name = (Some (97 ∷ [])); int_type = c.Int; length = (Some 3) }) ∷ (record {
          name = (Some (100 ∷ []));
          int_type = c.Int;
          length =
              (Some 2);
        }) ∷ []);
        visible = 2;
        labels = 0;
        calls = [];
        items = (tree.declared_before (tree.scalar_object 0 (p 3 6) (Some (tree.constant c.Int (pos 0)))) (tree.declared_before (tree.scalar_object
            1 (p 3 15) None) (tree.declared_before (tree.scalar_object 2 (p 3 27) None) (tree.declared_before (tree.array_object 3 (p 3 34) (Some (tree.value_before (tree.read (tree.scalar c.Int (Local 0)))
            (tree.value_before (tree.binary o.Add (p 3 43) c.Int (tree.read (tree.scalar c.Int (Local 0))) (tree.constant c.Int (pos 1))) tree.no_values)))) (tree.declared_before (tree.array_object 4 (p 3 52)
            None) (tree.statement_before (tree.effect (p 4 2) (tree.unused (tree.assign (p 0 0) (tree.element c.Int (File 0) (p 4 3) (tree.constant c.Int (pos 0))) (tree.read (tree.scalar c.Int (Local 0))))))
            (tree.statement_before (tree.effect (p 4 10) (tree.unused (tree.assign (p 0 0) (tree.element c.Int (File 0) (p 4 11) (tree.read (tree.scalar c.Int (Local 0)))) (tree.read (tree.element c.Int (File
            0) (p 4 16) (tree.binary o.Add (p 4 18) c.Int (tree.read (tree.scalar c.Int (Local 0))) (tree.constant c.Int (pos 1)))))))) (tree.statement_before (tree.effect (p 4 23) (tree.unused (tree.assign
            (p 0 0) (tree.element c.Int (File 0) (p 4 24) (tree.binary o.Add (p 4 26) c.Int (tree.read (tree.scalar c.Int (Local 0))) (tree.constant c.Int (pos 1)))) (tree.assign (p 0 0) (tree.scalar c.Int
            (Local 1)) (tree.constant c.Int (pos 2)))))) (tree.statement_before (tree.effect (p 4 35) (tree.unused (tree.assign (p 0 0) (tree.scalar c.Int (Local 0)) (tree.assign (p 0 0) (tree.element c.Int
            (File 0) (p 4 38) (tree.read (tree.scalar c.Int (Local 0)))) (tree.constant c.Int (pos 3)))))) (tree.statement_before (tree.effect (p 4 45) (tree.unused (tree.assign (p 0 0) (tree.scalar c.Int
            (Local 0)) (tree.binary o.Add (p 4 57) c.Int (tree.assign (p 0 0) (tree.element c.Int (File 0) (p 4 49) (tree.binary o.Add (p 4 51) c.Int (tree.read (tree.scalar c.Int (Local 0))) (tree.constant
            c.Int (pos 1)))) (tree.constant c.Int (pos 4))) (tree.constant c.Int (pos 1)))))) (tree.statement_before (tree.effect (p 4 61) (tree.unused (tree.update o.Add (p 4 65) c.Int (tree.element c.Int
            (File 0) (p 4 62) (tree.read (tree.scalar c.Int (Local 0)))) (tree.binary o.Add (p 4 68) c.Int (tree.read (tree.scalar c.Int (Local 0))) (tree.constant c.Int (pos 1)))))) (tree.statement_before
            (tree.effect (p 4 72) (tree.unused (tree.update o.Add (p 4 78) c.Int (tree.element c.Int (File 0) (p 4 73) (tree.binary o.Add (p 4 75) c.Int (tree.read (tree.scalar c.Int (Local 0)))
            (tree.constant c.Int (pos 1)))) (tree.constant c.Int (pos 2))))) (tree.statement_before (tree.effect (p 4 83) (tree.unused (tree.update o.Add (p 4 87) c.Int (tree.element c.Int (File 0) (p 4 84)
            (tree.read (tree.scalar c.Int (Local 0)))) (tree.read (tree.element c.Int (Local 4) (p 4 90) (tree.constant c.Int (pos 0))))))) (tree.statement_before (tree.effect (p 5 2) (tree.unused
            (tree.assign (p 0 0) (tree.scalar c.Int (Local 0)) (tree.step o.Add (p 5 8) c.Int (tree.element c.Int (File 0) (p 5 5) (tree.read (tree.scalar c.Int (Local 0)))) false)))) (tree.statement_before
            (tree.effect (p 5 12) (tree.unused (tree.assign (p 0 0) (tree.scalar c.Int (Local 0)) (tree.step o.Add (p 5 14) c.Int (tree.element c.Int (File 0) (p 5 17) (tree.read (tree.scalar c.Int (Local
            0)))) true)))) (tree.statement_before (tree.effect (p 5 22) (tree.unused (tree.step o.Sub (p 5 26) c.Int (tree.element c.Int (File 0) (p 5 23) (tree.read (tree.scalar c.Int (Local 0)))) false)))
            (tree.statement_before (tree.effect (p 5 30) (tree.unused (tree.step o.Sub (p 5 30) c.Int (tree.element c.Int (File 0) (p 5 33) (tree.binary o.Add (p 5 35) c.Int (tree.read (tree.scalar c.Int
            (Local 0))) (tree.constant c.Int (pos 1)))) true))) (tree.statement_before (tree.effect (p 5 40) (tree.unused (tree.assign (p 0 0) (tree.scalar c.Int (Local 0)) (tree.step o.Sub (p 5 48) c.Int
            (tree.element c.Int (File 0) (p 5 43) (tree.binary o.Add (p 5 45) c.Int (tree.read (tree.scalar c.Int (Local 0))) (tree.constant c.Int (pos 1)))) false)))) (tree.statement_before (tree.effect (p 5
            52) (tree.unused (tree.binary o.Add (p 5 56) c.UInt (tree.read (tree.element c.Int (File 0) (p 5 53) (tree.constant c.Int (pos 0)))) (tree.assign (p 0 0) (tree.scalar c.UInt (Local 2))
            (tree.constant c.Int (pos 1)))))) (tree.statement_before (tree.effect (p 5 64) (tree.unused (tree.assign (p 0 0) (tree.element c.Char (File 1) (p 5 65) (tree.read (tree.scalar c.Int (Local 0))))
            (tree.constant c.Int (pos 300))))) (tree.statement_before (tree.effect (p 5 74) (tree.unused (tree.assign (p 0 0) (tree.scalar c.Int (Local 1)) (tree.update o.Add (p 5 81) c.Int (tree.element
            c.Char (File 1) (p 5 78) (tree.read (tree.scalar c.Int (Local 0)))) (tree.read (tree.scalar c.Int (Local 0))))))) (tree.statement_before (tree.effect (p 5 87) (tree.unused (tree.assign (p 0 0)
            (tree.scalar c.Int (Local 0)) (tree.step o.Add (p 5 96) c.Int (tree.element c.Char (File 1) (p 5 90) (tree.read (tree.element c.Int (File 0) (p 5 92) (tree.constant c.Int (pos 0))))) false))))
            (tree.statement_before (tree.effect (p 5 100) (tree.unused (tree.assign (p 0 0) (tree.element c.Char (File 1) (p 5 101) (tree.read (tree.element c.Int (File 0) (p 5 103) (tree.read (tree.scalar
            c.Int (Local 0)))))) (tree.read (tree.element c.Int (File 0) (p 5 109) (tree.binary o.Add (p 5 111) c.Int (tree.read (tree.scalar c.Int (Local 0))) (tree.constant c.Int (pos 1))))))))
            (tree.statement_before (tree.effect (p 5 116) (tree.unused (tree.assign (p 0 0) (tree.element c.Int (File 0) (p 5 117) (tree.step o.Add (p 5 119) c.Int (tree.scalar c.Int (Local 0)) false))
            (tree.read (tree.scalar c.Int (Local 1)))))) (tree.statement_before (tree.effect (p 5 126) (tree.unused (tree.assign (p 0 0) (tree.scalar c.UInt (Local 2)) (tree.update o.Mul (p 5 134) c.Int
            (tree.element c.Int (File 0) (p 5 129) (tree.binary o.Add (p 5 131) c.Int (tree.read (tree.scalar c.Int (Local 0))) (tree.constant c.Int (pos 1)))) (tree.binary o.Mul (p 5 137) c.Int (tree.read
            (tree.scalar c.Int (Local 1))) (tree.constant c.Int (pos 2))))))) (tree.statement_before (tree.effect (p 6 2) (tree.unused (tree.binary o.Add (p 6 6) c.Int (tree.read (tree.element c.Int (File 0)
            (p 6 3) (tree.constant c.Int (pos 0)))) (tree.then_value (tree.unused (tree.read (tree.scalar c.Int (Local 0)))) (tree.constant c.Int (pos 2)))))) (tree.statement_before (tree.effect (p 6 14)
            (tree.unused (tree.assign (p 0 0) (tree.scalar c.Int (Local 0)) (tree.then_value (tree.unused (tree.assign (p 0 0) (tree.element c.Int (File 0) (p 6 18) (tree.constant c.Int (pos 0)))
            (tree.constant c.Int (pos 1)))) (tree.constant c.Int (pos 5)))))) (tree.statement_before (tree.effect (p 6 28) (tree.unused (tree.update o.Add (p 6 32) c.Int (tree.element c.Int (File 0) (p 6 29)
            (tree.read (tree.scalar c.Int (Local 0)))) (tree.assign (p 0 0) (tree.scalar c.Int (Local 1)) (tree.constant c.Int (pos 2)))))) (tree.statement_before (tree.effect (p 6 41) (tree.unused
            (tree.update o.Mul (p 6 47) c.Int (tree.element c.Int (File 0) (p 6 42) (tree.binary o.Add (p 6 44) c.Int (tree.read (tree.scalar c.Int (Local 0))) (tree.constant c.Int (pos 1)))) (tree.read
            (tree.element c.Int (Local 4) (p 6 50) (tree.step o.Add (p 6 52) c.Int (tree.scalar c.Int (Local 1)) false)))))) (tree.statement_before (tree.return (p 7 2) (Some (tree.binary o.Add (p 7 13) c.Int
            (tree.read (tree.element c.Int (Local 3) (p 7 10) (tree.constant c.Int (pos 1)))) (tree.read (tree.element c.Int (Local 4) (p 7 15) (tree.constant c.Int (pos 0)))))))
            tree.no_items))))))))))))))))))))))))))))));
      }));
    } ∷ []);
  });
  paths = (record { function = 0; caller = None } ∷ []);
}

run_elements_1 : compared 1000 program_elements ((pos 1) ∷ (negsuc 170) ∷ (pos 5) ∷ (pos 1068353022066688) ∷ (pos 6) ∷ (pos 0) ∷ (pos 0) ∷ (pos 2) ∷ (pos 112) ∷ (pos 1) ∷ (pos 598) ∷ (pos 1) ∷ (pos 0)
    ∷ (pos 1) ∷ (pos 3) ∷ (pos 28) ∷ (pos 0) ∷ (pos 0) ∷ (pos 568) ∷ (pos 0) ∷ (pos 5) ∷ (pos 4) ∷ (pos 1934582405398528) ∷ (pos 1) ∷ (pos 0) ∷ (pos 0) ∷ (pos 1) ∷ (pos 750933312012288) ∷ (pos 284) ∷
    (pos 3) ∷ (pos 0) ∷ (negsuc 185) ∷ (pos 1060046522810368) ∷ (pos 261) ∷ (negsuc 278) ∷ (pos 1481263292612608) ∷ (pos 1) ∷ (pos 2) ∷ (pos 1379729993105408) ∷ (pos 0) ∷ []) ≡ both (Fails (failure
    e.Index (s 0 4 49)))
unfolding program_elements type_of body_of name_of calls_of target ways performed passed items all_declared case_tests lowered lowered_items all_introduced body_draft part sizes_of parts_from preorder
run_elements_1 = refl

-- ```
-- int main(void){
--  int i=0;
-- again: i++;
--  if(i<3) goto again;
--  if(i==3) goto out;
--  while(1){ inner: i++; if(i>5) goto out; }
--  { int j=2; goto deep; deep: j++; for(;;){ L: i++; if(i>9) break; goto L; } }
-- out: a: b: return i; dead: i=1; goto dead;}
-- ```
program_jumps : Program
program_jumps = record {
  unit = (record {
    objects = ([]);
    functions = (record {
      name = (109 ∷ 97 ∷ 105 ∷ 110 ∷ []);
      returns = (Some c.Int);
      parameters = [];
      body = (Some (record {
        opened = (p 1 15);
        closed = (p 8 43);
        locals = ((record { name = (Some (105 ∷ [])); int_type = c.Int; length = None }) ∷ (record { name = (Some (106 ∷ [])); int_type = c.Int; length = None }) ∷ []);
        visible = 0;
        labels = 8;
        calls = [];
        items = (tree.declared_before (tree.scalar_object 0 (p 2 6) (Some (tree.constant c.Int (pos 0)))) (tree.statement_before (tree.label (p 3 1) 0 (tree.effect (p 3 8)
            (tree.unused (tree.step o.Add (p 3 9) c.Int (tree.scalar c.Int (Local 0)) false)))) (tree.statement_before (tree.if_then (p 4 2) (tree.binary o.Lt (p 4 6) c.Int (tree.read (tree.scalar c.Int
            (Local 0))) (tree.constant c.Int (pos 3))) (tree.goto (p 4 10) 0)) (tree.statement_before (tree.if_then (p 5 2) (tree.binary o.Eq (p 5 6) c.Int (tree.read (tree.scalar c.Int (Local 0)))
            (tree.constant c.Int (pos 3))) (tree.goto (p 5 11) 1)) (tree.statement_before (tree.while (p 6 2) (tree.constant c.Int (pos 1)) (tree.block (p 0 0) (tree.statement_before (tree.label (p 6 12) 2
            (tree.effect (p 6 19) (tree.unused (tree.step o.Add (p 6 20) c.Int (tree.scalar c.Int (Local 0)) false)))) (tree.statement_before (tree.if_then (p 6 24) (tree.binary o.Gt (p 6 28) c.Int (tree.read
            (tree.scalar c.Int (Local 0))) (tree.constant c.Int (pos 5))) (tree.goto (p 6 32) 1)) tree.no_items)))) (tree.statement_before (tree.block (p 0 0) (tree.declared_before (tree.scalar_object 1 (p 7
            8) (Some (tree.constant c.Int (pos 2)))) (tree.statement_before (tree.goto (p 7 13) 3) (tree.statement_before (tree.label (p 7 24) 3 (tree.effect (p 7 30) (tree.unused (tree.step o.Add (p 7 31)
            c.Int (tree.scalar c.Int (Local 1)) false)))) (tree.statement_before (tree.for_loop (p 7 35) (tree.expression None) None None (tree.block (p 0 0) (tree.statement_before (tree.label (p 7 44) 4
            (tree.effect (p 7 47) (tree.unused (tree.step o.Add (p 7 48) c.Int (tree.scalar c.Int (Local 0)) false)))) (tree.statement_before (tree.if_then (p 7 52) (tree.binary o.Gt (p 7 56) c.Int (tree.read
            (tree.scalar c.Int (Local 0))) (tree.constant c.Int (pos 9))) (tree.break (p 7 60))) (tree.statement_before (tree.goto (p 7 67) 4) tree.no_items))))) tree.no_items))))) (tree.statement_before
            (tree.label (p 8 1) 1 (tree.label (p 8 6) 5 (tree.label (p 8 9) 6 (tree.return (p 8 12) (Some (tree.read (tree.scalar c.Int (Local 0)))))))) (tree.statement_before (tree.label (p 8 22) 7
            (tree.effect (p 8 28) (tree.unused (tree.assign (p 0 0) (tree.scalar c.Int (Local 0)) (tree.constant c.Int (pos 1)))))) (tree.statement_before (tree.goto (p 8 33) 7) tree.no_items)))))))));
      }));
    } ∷
        []);
  });
  paths = (record { function = 0; caller = None } ∷ []);
}

run_jumps_1 : compared 1000 program_jumps ((pos 649) ∷ (negsuc 261) ∷ (pos 0) ∷ (pos 500) ∷ (pos 0) ∷ (pos 555) ∷ (pos 3) ∷ (pos 126) ∷ (pos 1) ∷ (pos 1) ∷ (pos 1) ∷ (negsuc 0) ∷ (pos 5) ∷ (pos 0) ∷
    (pos 1265734006079488) ∷ (pos 539) ∷ (pos 1827735620026368) ∷ (negsuc 0) ∷ (pos 291139646128128) ∷ (negsuc 203) ∷ (pos 0) ∷ (pos 2) ∷ (pos 6) ∷ (pos 295) ∷ (negsuc 180) ∷ (pos 1385343188205568) ∷
    (pos 1) ∷ (pos 5) ∷ (pos 0) ∷ (pos 910424117608448) ∷ (pos 0) ∷ (pos 0) ∷ (pos 1) ∷ (pos 0) ∷ (pos 868384005685248) ∷ (pos 1) ∷ (pos 0) ∷ (pos 605122234155008) ∷ (negsuc 80) ∷ (pos 1) ∷ []) ≡ left
    (Some (pos 3))
unfolding program_jumps type_of body_of name_of calls_of target ways performed passed items all_declared case_tests lowered lowered_items all_introduced body_draft part sizes_of parts_from preorder
run_jumps_1 = refl

-- ```
-- int main(void){
--  int s=0;
--  for(int i=0;i<3;i++){ int q=i; if(q==1)continue; if(q==2)break; s+=q; }
--  for(;;){ if(s>10)break; s++; }
--  int k; for(k=0;k<2;)k++;
--  do { s--; if(s&1)continue; } while(s>0 && k);
--  while(!(s>=10)) s++;
--  while(s||k) { s=0; k=0; }
--  if(s);else s=1;
--  { int s=3; s++; }
--  for(int a=1,b=2;a<b;a++,b--) ;
--  return s;}
-- ```
program_loops : Program
program_loops = record {
  unit = (record {
    objects = ([]);
    functions = (record {
      name = (109 ∷ 97 ∷ 105 ∷ 110 ∷ []);
      returns = (Some c.Int);
      parameters = [];
      body = (Some (record {
        opened = (p 1 15);
        closed = (p 12 11);
        locals = ((record { name = (Some (115 ∷ [])); int_type = c.Int; length = None }) ∷ (record { name = (Some (105 ∷ [])); int_type = c.Int; length = None }) ∷ (record {
          name =
              (Some (113 ∷ []));
          int_type = c.Int;
          length = None;
        }) ∷ (record { name = (Some (107 ∷ [])); int_type = c.Int; length = None }) ∷ (record {
          name = (Some (115 ∷ []));
          int_type = c.Int;
          length = None;
        }) ∷ (record { name = (Some (97 ∷ [])); int_type = c.Int; length = None }) ∷ (record { name = (Some (98 ∷ [])); int_type = c.Int; length = None }) ∷ []);
        visible = 0;
        labels = 0;
        calls = [];
        items
            = (tree.declared_before (tree.scalar_object 0 (p 2 6) (Some (tree.constant c.Int (pos 0)))) (tree.statement_before (tree.for_loop (p 3 2) (tree.declarations ((tree.scalar_object 1 (p 3 10) (Some
            (tree.constant c.Int (pos 0)))) ∷ [])) (Some (tree.binary o.Lt (p 3 15) c.Int (tree.read (tree.scalar c.Int (Local 1))) (tree.constant c.Int (pos 3)))) (Some (tree.unused (tree.step o.Add (p 3 19)
            c.Int (tree.scalar c.Int (Local 1)) false))) (tree.block (p 0 0) (tree.declared_before (tree.scalar_object 2 (p 3 28) (Some (tree.read (tree.scalar c.Int (Local 1))))) (tree.statement_before
            (tree.if_then (p 3 33) (tree.binary o.Eq (p 3 37) c.Int (tree.read (tree.scalar c.Int (Local 2))) (tree.constant c.Int (pos 1))) (tree.continue (p 3 41))) (tree.statement_before (tree.if_then (p 3
            51) (tree.binary o.Eq (p 3 55) c.Int (tree.read (tree.scalar c.Int (Local 2))) (tree.constant c.Int (pos 2))) (tree.break (p 3 59))) (tree.statement_before (tree.effect (p 3 66) (tree.unused
            (tree.update o.Add (p 3 67) c.Int (tree.scalar c.Int (Local 0)) (tree.read (tree.scalar c.Int (Local 2)))))) tree.no_items)))))) (tree.statement_before (tree.for_loop (p 4 2) (tree.expression
            None) None None (tree.block (p 0 0) (tree.statement_before (tree.if_then (p 4 11) (tree.binary o.Gt (p 4 15) c.Int (tree.read (tree.scalar c.Int (Local 0))) (tree.constant c.Int (pos 10)))
            (tree.break (p 4 19))) (tree.statement_before (tree.effect (p 4 26) (tree.unused (tree.step o.Add (p 4 27) c.Int (tree.scalar c.Int (Local 0)) false))) tree.no_items)))) (tree.declared_before
            (tree.scalar_object 3 (p 5 6) None) (tree.statement_before (tree.for_loop (p 5 9) (tree.expression (Some (tree.unused (tree.assign (p 0 0) (tree.scalar c.Int (Local 3)) (tree.constant c.Int (pos
            0)))))) (Some (tree.binary o.Lt (p 5 18) c.Int (tree.read (tree.scalar c.Int (Local 3))) (tree.constant c.Int (pos 2)))) None (tree.effect (p 5 22) (tree.unused (tree.step o.Add (p 5 23) c.Int
            (tree.scalar c.Int (Local 3)) false)))) (tree.statement_before (tree.do_while (p 6 2) (tree.block (p 0 0) (tree.statement_before (tree.effect (p 6 7) (tree.unused (tree.step o.Sub (p 6 8) c.Int
            (tree.scalar c.Int (Local 0)) false))) (tree.statement_before (tree.if_then (p 6 12) (tree.binary o.And (p 6 16) c.Int (tree.read (tree.scalar c.Int (Local 0))) (tree.constant c.Int (pos 1)))
            (tree.continue (p 6 19))) tree.no_items))) (tree.and (tree.binary o.Gt (p 6 38) c.Int (tree.read (tree.scalar c.Int (Local 0))) (tree.constant c.Int (pos 0))) (tree.read (tree.scalar c.Int (Local
            3))))) (tree.statement_before (tree.while (p 7 2) (tree.unary o.Not (p 7 8) c.Int (tree.binary o.Ge (p 7 11) c.Int (tree.read (tree.scalar c.Int (Local 0))) (tree.constant c.Int (pos 10))))
            (tree.effect (p 7 18) (tree.unused (tree.step o.Add (p 7 19) c.Int (tree.scalar c.Int (Local 0)) false)))) (tree.statement_before (tree.while (p 8 2) (tree.or (tree.read (tree.scalar c.Int (Local
            0))) (tree.read (tree.scalar c.Int (Local 3)))) (tree.block (p 0 0) (tree.statement_before (tree.effect (p 8 16) (tree.unused (tree.assign (p 0 0) (tree.scalar c.Int (Local 0)) (tree.constant
            c.Int (pos 0))))) (tree.statement_before (tree.effect (p 8 21) (tree.unused (tree.assign (p 0 0) (tree.scalar c.Int (Local 3)) (tree.constant c.Int (pos 0))))) tree.no_items))))
            (tree.statement_before (tree.if_else (p 9 2) (tree.read (tree.scalar c.Int (Local 0))) (tree.empty (p 9 7)) (tree.effect (p 9 13) (tree.unused (tree.assign (p 0 0) (tree.scalar c.Int (Local 0))
            (tree.constant c.Int (pos 1)))))) (tree.statement_before (tree.block (p 0 0) (tree.declared_before (tree.scalar_object 4 (p 10 8) (Some (tree.constant c.Int (pos 3)))) (tree.statement_before
            (tree.effect (p 10 13) (tree.unused (tree.step o.Add (p 10 14) c.Int (tree.scalar c.Int (Local 4)) false))) tree.no_items))) (tree.statement_before (tree.for_loop (p 11 2) (tree.declarations
            ((tree.scalar_object 5 (p 11 10) (Some (tree.constant c.Int (pos 1)))) ∷ (tree.scalar_object 6 (p 11 14) (Some (tree.constant c.Int (pos 2)))) ∷ [])) (Some (tree.binary o.Lt (p 11 19) c.Int
            (tree.read (tree.scalar c.Int (Local 5))) (tree.read (tree.scalar c.Int (Local 6))))) (Some (tree.unused (tree.then_value (tree.unused (tree.step o.Add (p 11 23) c.Int (tree.scalar c.Int (Local
            5)) false)) (tree.step o.Sub (p 11 27) c.Int (tree.scalar c.Int (Local 6)) false)))) (tree.empty (p 11 31))) (tree.statement_before (tree.return (p 12 2) (Some (tree.read (tree.scalar c.Int (Local
            0))))) tree.no_items))))))))))));
      }));
    } ∷ []);
  });
  paths = (record { function = 0; caller = None } ∷ []);
}

run_loops_1 : compared 1000 program_loops ((pos 1) ∷ []) ≡ left (Some (pos 1))
unfolding program_loops type_of body_of name_of calls_of target ways performed passed items all_declared case_tests lowered lowered_items all_introduced body_draft part sizes_of parts_from preorder
run_loops_1 = refl

-- ```
-- int main(void){
--  int x=2; char c=1; int r=0;
--  switch(x){case 1: r=1; break; case 2: r=2; case 3: {r=3; while(r){ r--; if(r==1) break; continue; case 9: r=7;} } default: r+=4; break; case 5: r=5;}
--  switch(c){case 1: break;}
--  switch(3){case 3: r=1; default: ;}
--  switch(x+1){ case 3: { int y; y=2; switch(y){case 2: break; default: r=1;} } break; }
--  while(x){ switch(x){case 1: continue; case 2: x=0; } x=0; }
--  switch(x) r=1;
--  return r;}
-- ```
program_switches : Program
program_switches = record {
  unit = (record {
    objects = ([]);
    functions = (record {
      name = (109 ∷ 97 ∷ 105 ∷ 110 ∷ []);
      returns = (Some c.Int);
      parameters = [];
      body = (Some (record {
        opened = (p 1
            15);
        closed = (p 9 11);
        locals = ((record { name = (Some (120 ∷ [])); int_type = c.Int; length = None }) ∷ (record { name = (Some (99 ∷ [])); int_type = c.Char; length = None }) ∷ (record {
          name =
              (Some (114 ∷ []));
          int_type = c.Int;
          length = None;
        }) ∷ (record { name = (Some (121 ∷ [])); int_type = c.Int; length = None }) ∷ []);
        visible = 0;
        labels = 0;
        calls = [];
        items =
            (tree.declared_before (tree.scalar_object 0 (p 2 6) (Some (tree.constant c.Int (pos 2)))) (tree.declared_before (tree.scalar_object 1 (p 2 16) (Some (tree.constant c.Int (pos 1))))
            (tree.declared_before (tree.scalar_object 2 (p 2 25) (Some (tree.constant c.Int (pos 0)))) (tree.statement_before (tree.switch (p 3 2) c.Int (tree.read (tree.scalar c.Int (Local 0))) ((pos 1) ∷
            (pos 2) ∷ (pos 3) ∷ (pos 9) ∷ (pos 5) ∷ []) true (tree.block (p 0 0) (tree.statement_before (tree.case (p 3 12) 0 (tree.effect (p 3 20) (tree.unused (tree.assign (p 0 0) (tree.scalar c.Int (Local
            2)) (tree.constant c.Int (pos 1)))))) (tree.statement_before (tree.break (p 3 25)) (tree.statement_before (tree.case (p 3 32) 1 (tree.effect (p 3 40) (tree.unused (tree.assign (p 0 0) (tree.scalar
            c.Int (Local 2)) (tree.constant c.Int (pos 2)))))) (tree.statement_before (tree.case (p 3 45) 2 (tree.block (p 0 0) (tree.statement_before (tree.effect (p 3 54) (tree.unused (tree.assign (p 0 0)
            (tree.scalar c.Int (Local 2)) (tree.constant c.Int (pos 3))))) (tree.statement_before (tree.while (p 3 59) (tree.read (tree.scalar c.Int (Local 2))) (tree.block (p 0 0) (tree.statement_before
            (tree.effect (p 3 69) (tree.unused (tree.step o.Sub (p 3 70) c.Int (tree.scalar c.Int (Local 2)) false))) (tree.statement_before (tree.if_then (p 3 74) (tree.binary o.Eq (p 3 78) c.Int (tree.read
            (tree.scalar c.Int (Local 2))) (tree.constant c.Int (pos 1))) (tree.break (p 3 83))) (tree.statement_before (tree.continue (p 3 90)) (tree.statement_before (tree.case (p 3 100) 3 (tree.effect (p 3
            108) (tree.unused (tree.assign (p 0 0) (tree.scalar c.Int (Local 2)) (tree.constant c.Int (pos 7)))))) tree.no_items)))))) tree.no_items)))) (tree.statement_before (tree.default (p 3 116)
            (tree.effect (p 3 125) (tree.unused (tree.update o.Add (p 3 126) c.Int (tree.scalar c.Int (Local 2)) (tree.constant c.Int (pos 4)))))) (tree.statement_before (tree.break (p 3 131))
            (tree.statement_before (tree.case (p 3 138) 4 (tree.effect (p 3 146) (tree.unused (tree.assign (p 0 0) (tree.scalar c.Int (Local 2)) (tree.constant c.Int (pos 5)))))) tree.no_items)))))))))
            (tree.statement_before (tree.switch (p 4 2) c.Int (tree.read (tree.scalar c.Char (Local 1))) ((pos 1) ∷ []) false (tree.block (p 0 0) (tree.statement_before (tree.case (p 4 12) 0 (tree.break (p 4
            20))) tree.no_items))) (tree.statement_before (tree.switch (p 5 2) c.Int (tree.constant c.Int (pos 3)) ((pos 3) ∷ []) true (tree.block (p 0 0) (tree.statement_before (tree.case (p 5 12) 0
            (tree.effect (p 5 20) (tree.unused (tree.assign (p 0 0) (tree.scalar c.Int (Local 2)) (tree.constant c.Int (pos 1)))))) (tree.statement_before (tree.default (p 5 25) (tree.empty (p 5 34)))
            tree.no_items)))) (tree.statement_before (tree.switch (p 6 2) c.Int (tree.binary o.Add (p 6 10) c.Int (tree.read (tree.scalar c.Int (Local 0))) (tree.constant c.Int (pos 1))) ((pos 3) ∷ []) false
            (tree.block (p 0 0) (tree.statement_before (tree.case (p 6 15) 0 (tree.block (p 0 0) (tree.declared_before (tree.scalar_object 3 (p 6 29) None) (tree.statement_before (tree.effect (p 6 32)
            (tree.unused (tree.assign (p 0 0) (tree.scalar c.Int (Local 3)) (tree.constant c.Int (pos 2))))) (tree.statement_before (tree.switch (p 6 37) c.Int (tree.read (tree.scalar c.Int (Local 3))) ((pos
            2) ∷ []) true (tree.block (p 0 0) (tree.statement_before (tree.case (p 6 47) 0 (tree.break (p 6 55))) (tree.statement_before (tree.default (p 6 62) (tree.effect (p 6 71) (tree.unused (tree.assign
            (p 0 0) (tree.scalar c.Int (Local 2)) (tree.constant c.Int (pos 1)))))) tree.no_items)))) tree.no_items))))) (tree.statement_before (tree.break (p 6 79)) tree.no_items)))) (tree.statement_before
            (tree.while (p 7 2) (tree.read (tree.scalar c.Int (Local 0))) (tree.block (p 0 0) (tree.statement_before (tree.switch (p 7 12) c.Int (tree.read (tree.scalar c.Int (Local 0))) ((pos 1) ∷ (pos 2) ∷
            []) false (tree.block (p 0 0) (tree.statement_before (tree.case (p 7 22) 0 (tree.continue (p 7 30))) (tree.statement_before (tree.case (p 7 40) 1 (tree.effect (p 7 48) (tree.unused (tree.assign (p
            0 0) (tree.scalar c.Int (Local 0)) (tree.constant c.Int (pos 0)))))) tree.no_items)))) (tree.statement_before (tree.effect (p 7 55) (tree.unused (tree.assign (p 0 0) (tree.scalar c.Int (Local 0))
            (tree.constant c.Int (pos 0))))) tree.no_items)))) (tree.statement_before (tree.switch (p 8 2) c.Int (tree.read (tree.scalar c.Int (Local 0))) [] false (tree.effect (p 8 12) (tree.unused
            (tree.assign (p 0 0) (tree.scalar c.Int (Local 2)) (tree.constant c.Int (pos 1)))))) (tree.statement_before (tree.return (p 9 2) (Some (tree.read (tree.scalar c.Int (Local 2)))))
            tree.no_items))))))))));
      }));
    } ∷ []);
  });
  paths = (record { function = 0; caller = None } ∷ []);
}

run_switches_1 : compared 1000 program_switches ((pos 1) ∷ (pos 0) ∷ (negsuc 0) ∷ (negsuc 193) ∷ (negsuc 8) ∷ (pos 1) ∷ (pos 1) ∷ (negsuc 40) ∷ (pos 713474266103808) ∷ (pos 1011809845772288) ∷ (pos 1)
    ∷ (pos 1) ∷ (pos 0) ∷ (pos 0) ∷ (pos 0) ∷ (pos 0) ∷ (pos 1) ∷ (pos 28106705338368) ∷ (pos 5) ∷ (pos 5) ∷ (pos 0) ∷ (pos 153658225328128) ∷ (pos 1561848969166848) ∷ (negsuc 1) ∷ (pos 2) ∷ (pos 0) ∷
    (negsuc 1) ∷ (pos 892970292215808) ∷ (pos 1) ∷ (pos 1) ∷ (pos 1) ∷ (negsuc 1913821069311) ∷ (pos 3) ∷ (negsuc 0) ∷ (pos 69106787155968) ∷ (pos 1) ∷ (pos 0) ∷ (pos 1) ∷ (negsuc 244) ∷ (pos 1) ∷ [])
    ≡ left (Some (pos 1))
unfolding program_switches type_of body_of name_of calls_of target ways performed passed items all_declared case_tests lowered lowered_items all_introduced body_draft part sizes_of parts_from preorder
run_switches_1 = refl

-- ```
-- extern int __VERIFIER_nondet_int(void); extern unsigned char __VERIFIER_nondet_uchar(void);
-- void __VERIFIER_assume(int); void __pikos_assert(int); void abort(void);
-- int main(void){ int x=__VERIFIER_nondet_int(); char y; int z[4]; long l=x;
--  x=__VERIFIER_nondet_uchar(); __VERIFIER_assume(x>3&&x<9||!y); __VERIFIER_assume(l); __VERIFIER_assume(!(x/y)); __VERIFIER_assume(!l);
--  __pikos_assert(x); __pikos_assert(l+1); if(x) abort(); x?x:l; (void)__VERIFIER_nondet_int(); __VERIFIER_nondet_int(); return z[x], x; }
-- ```
program_specials : Program
program_specials = record {
  unit = (record {
    objects = ([]);
    functions = (record {
      name = (95 ∷ 95 ∷ 86 ∷ 69 ∷ 82 ∷ 73 ∷ 70 ∷ 73 ∷ 69 ∷ 82 ∷ 95 ∷ 110 ∷ 111 ∷ 110 ∷ 100 ∷ 101 ∷ 116 ∷ 95 ∷ 105 ∷ 110 ∷
          116 ∷ []);
      returns = (Some c.Int);
      parameters = [];
      body = None;
    } ∷ record {
      name = (95 ∷ 95 ∷ 86 ∷ 69 ∷ 82 ∷ 73 ∷ 70 ∷ 73 ∷ 69 ∷ 82 ∷ 95 ∷ 110 ∷ 111 ∷ 110 ∷ 100 ∷ 101 ∷ 116 ∷ 95 ∷ 117 ∷ 99 ∷ 104
          ∷ 97 ∷ 114 ∷ []);
      returns = (Some c.UChar);
      parameters = [];
      body = None;
    } ∷ record {
      name = (95 ∷ 95 ∷ 86 ∷ 69 ∷ 82 ∷ 73 ∷ 70 ∷ 73 ∷ 69 ∷ 82 ∷ 95 ∷ 97 ∷ 115 ∷ 115 ∷ 117 ∷ 109 ∷ 101 ∷ []);
      returns
          = None;
      parameters = (c.Int ∷ []);
      body = None;
    } ∷ record {
      name = (95 ∷ 95 ∷ 112 ∷ 105 ∷ 107 ∷ 111 ∷ 115 ∷ 95 ∷ 97 ∷ 115 ∷ 115 ∷ 101 ∷ 114 ∷ 116 ∷ []);
      returns = None;
      parameters = (c.Int ∷ []);
      body = None;
    } ∷ record { name = (97 ∷ 98 ∷ 111 ∷ 114 ∷ 116 ∷ []); returns = None; parameters = []; body = None } ∷ record {
      name = (109 ∷ 97 ∷ 105 ∷ 110 ∷ []);
      returns = (Some c.Int);
      parameters =
          [];
      body = (Some (record {
        opened = (p 3 15);
        closed = (p 5 136);
        locals = ((record { name = (Some (120 ∷ [])); int_type = c.Int; length = None }) ∷ (record {
          name = (Some (121 ∷ []));
          int_type =
              c.Char;
          length = None;
        }) ∷ (record { name = (Some (122 ∷ [])); int_type = c.Int; length = (Some 4) }) ∷ (record { name = (Some (108 ∷ [])); int_type = c.Long; length = None }) ∷ []);
        visible = 0;
        labels = 0;
        calls = [];
        items = (tree.declared_before (tree.scalar_object 0 (p 3 21) (Some (tree.any c.Int (p 3 23)))) (tree.declared_before (tree.scalar_object 1 (p 3 53) None)
            (tree.declared_before (tree.array_object 2 (p 3 60) None) (tree.declared_before (tree.scalar_object 3 (p 3 71) (Some (tree.read (tree.scalar c.Int (Local 0))))) (tree.statement_before (tree.effect
            (p 4 2) (tree.unused (tree.assign (p 0 0) (tree.scalar c.Int (Local 0)) (tree.any c.UChar (p 4 4))))) (tree.statement_before (tree.effect (p 4 31) (tree.assume (p 4 31) (tree.or (tree.and
            (tree.binary o.Gt (p 4 50) c.Int (tree.read (tree.scalar c.Int (Local 0))) (tree.constant c.Int (pos 3))) (tree.binary o.Lt (p 4 55) c.Int (tree.read (tree.scalar c.Int (Local 0))) (tree.constant
            c.Int (pos 9)))) (tree.unary o.Not (p 4 59) c.Int (tree.read (tree.scalar c.Char (Local 1))))))) (tree.statement_before (tree.effect (p 4 64) (tree.assume (p 4 64) (tree.read (tree.scalar c.Long
            (Local 3))))) (tree.statement_before (tree.effect (p 4 86) (tree.assume (p 4 86) (tree.unary o.Not (p 4 104) c.Int (tree.binary o.Div (p 4 107) c.Int (tree.read (tree.scalar c.Int (Local 0)))
            (tree.read (tree.scalar c.Char (Local 1))))))) (tree.statement_before (tree.effect (p 4 113) (tree.assume (p 4 113) (tree.unary o.Not (p 4 131) c.Long (tree.read (tree.scalar c.Long (Local 3))))))
            (tree.statement_before (tree.effect (p 5 2) (tree.assert (p 5 2) (tree.read (tree.scalar c.Int (Local 0))))) (tree.statement_before (tree.effect (p 5 21) (tree.assert (p 5 21) (tree.binary o.Add
            (p 5 37) c.Long (tree.read (tree.scalar c.Long (Local 3))) (tree.constant c.Int (pos 1))))) (tree.statement_before (tree.if_then (p 5 42) (tree.read (tree.scalar c.Int (Local 0))) (tree.effect (p
            5 48) (tree.abort (p 5 48)))) (tree.statement_before (tree.effect (p 5 57) (tree.unused (tree.conditional c.Long (tree.read (tree.scalar c.Int (Local 0))) (tree.read (tree.scalar c.Int (Local 0)))
            (tree.read (tree.scalar c.Long (Local 3)))))) (tree.statement_before (tree.effect (p 5 64) (tree.unused (tree.any c.Int (p 5 70)))) (tree.statement_before (tree.effect (p 5 95) (tree.unused
            (tree.any c.Int (p 5 95)))) (tree.statement_before (tree.return (p 5 120) (Some (tree.then_value (tree.unused (tree.read (tree.element c.Int (Local 2) (p 5 128) (tree.read (tree.scalar c.Int
            (Local 0)))))) (tree.read (tree.scalar c.Int (Local 0)))))) tree.no_items))))))))))))))));
      }));
    } ∷ []);
  });
  paths = (record { function = 5; caller = None } ∷ []);
}

run_specials_1 : compared 1000 program_specials ((pos 0) ∷ (pos 775736758632448) ∷ (pos 6) ∷ (pos 0) ∷ (pos 557) ∷ (pos 1) ∷ (pos 0) ∷ (pos 0) ∷ (pos 17) ∷ (pos 1) ∷ (pos 1) ∷ (pos 1) ∷ (pos 171) ∷
    (pos 0) ∷ (negsuc 45) ∷ (pos 1) ∷ (pos 1860251138654208) ∷ (pos 0) ∷ (pos 1) ∷ (pos 1665727854542848) ∷ (pos 0) ∷ (pos 1) ∷ (pos 4) ∷ (pos 1) ∷ (pos 0) ∷ (pos 1) ∷ (pos 0) ∷ (pos 6) ∷ (pos 323) ∷
    (pos 565) ∷ (pos 0) ∷ (pos 0) ∷ (pos 0) ∷ (pos 1) ∷ (pos 1) ∷ (pos 0) ∷ (pos 0) ∷ (pos 163) ∷ (pos 1) ∷ (pos 0) ∷ []) ≡ both Halts
unfolding program_specials type_of body_of name_of calls_of target ways performed passed items all_declared case_tests lowered lowered_items all_introduced body_draft part sizes_of parts_from preorder
run_specials_1 = refl

run_specials_2 : compared 1000 program_specials ((pos 103) ∷ (pos 0) ∷ (pos 549328485613568) ∷ (pos 535) ∷ (pos 0) ∷ (pos 0) ∷ (pos 1) ∷ (pos 683) ∷ (pos 0) ∷ (pos 1) ∷ (negsuc 139) ∷ (negsuc 0) ∷
    (pos 543) ∷ (pos 1) ∷ (pos 1) ∷ (pos 566) ∷ (negsuc 107) ∷ (pos 1) ∷ (pos 0) ∷ (pos 1) ∷ (pos 0) ∷ (pos 1811117273776128) ∷ (pos 0) ∷ (pos 389) ∷ (pos 40) ∷ (negsuc 0) ∷ (negsuc 1) ∷ (pos 548) ∷
    (pos 3) ∷ (pos 0) ∷ (pos 1) ∷ (pos 1) ∷ (negsuc 232) ∷ (pos 1739598392721408) ∷ (pos 0) ∷ (negsuc 240149653880831) ∷ (pos 0) ∷ (pos 202) ∷ (pos 0) ∷ (pos 0) ∷ []) ≡ both (Fails (failure e.DivZero
    (s 0 4 107)))
unfolding program_specials type_of body_of name_of calls_of target ways performed passed items all_declared case_tests lowered lowered_items all_introduced body_draft part sizes_of parts_from preorder
run_specials_2 = refl

-- ```
-- int x=1; int y[3]={1,2,3}; long z=-5;
-- int f(int x,int y){ { int x=y; { int y=x; x=y; } } return x; }
-- int w=2;
-- int main(void){ int z=f(x,w); for(int x=0;x<2;x++){ int x=3; x++; } return z; }
-- ```
program_hidden : Program
program_hidden = record {
  unit = (record {
    objects = (record { name = (120 ∷ []); int_type = c.Int; start = (tree.scalar_start (pos 1)) } ∷ record {
      name = (121 ∷ []);
      int_type = c.Int;
      start =
          (tree.array_start 3 ((pos 1) ∷ (pos 2) ∷ (pos 3) ∷ []));
    } ∷ record { name = (122 ∷ []); int_type = c.Long; start = (tree.scalar_start (negsuc 4)) } ∷ record {
      name = (119 ∷ []);
      int_type = c.Int;
      start = (tree.scalar_start (pos 2));
    } ∷ []);
    functions = (record {
      name = (102 ∷ []);
      returns = (Some c.Int);
      parameters = (c.Int ∷ c.Int ∷ []);
      body = (Some (record {
        opened = (p 2 19);
        closed =
            (p 2 62);
        locals = ((record { name = (Some (120 ∷ [])); int_type = c.Int; length = None }) ∷ (record { name = (Some (121 ∷ [])); int_type = c.Int; length = None }) ∷ (record {
          name = (Some (120 ∷
              []));
          int_type = c.Int;
          length = None;
        }) ∷ (record { name = (Some (121 ∷ [])); int_type = c.Int; length = None }) ∷ []);
        visible = 3;
        labels = 0;
        calls = [];
        items = (tree.statement_before
            (tree.block (p 0 0) (tree.declared_before (tree.scalar_object 2 (p 2 27) (Some (tree.read (tree.scalar c.Int (Local 1))))) (tree.statement_before (tree.block (p 0 0) (tree.declared_before
            (tree.scalar_object 3 (p 2 38) (Some (tree.read (tree.scalar c.Int (Local 2))))) (tree.statement_before (tree.effect (p 2 43) (tree.unused (tree.assign (p 0 0) (tree.scalar c.Int (Local 2))
            (tree.read (tree.scalar c.Int (Local 3)))))) tree.no_items))) tree.no_items))) (tree.statement_before (tree.return (p 2 52) (Some (tree.read (tree.scalar c.Int (Local 0))))) tree.no_items));
      }));
    }
        ∷ record {
          name = (109 ∷ 97 ∷ 105 ∷ 110 ∷ []);
          returns = (Some c.Int);
          parameters = [];
          body = (Some (record {
            opened = (p 4 15);
            closed = (p 4 79);
            locals = ((record {
              name = (Some (122 ∷ []));
              int_type = c.Int;
              length = None;
            }) ∷ (record { name = (Some (120 ∷ [])); int_type = c.Int; length = None }) ∷ (record { name = (Some (120 ∷ [])); int_type = c.Int; length = None }) ∷ []);
            visible
                = 4;
            labels = 0;
            calls = ((record { function = 0; at = (p 4 23) }) ∷ []);
            items = (tree.declared_before (tree.scalar_object 0 (p 4 21) (Some (tree.call c.Int 0 0 (p 4 23) (tree.value_before
                (tree.read (tree.scalar c.Int (File 0))) (tree.value_before (tree.read (tree.scalar c.Int (File 3))) tree.no_values))))) (tree.statement_before (tree.for_loop (p 4 31) (tree.declarations
                ((tree.scalar_object 1 (p 4 39) (Some (tree.constant c.Int (pos 0)))) ∷ [])) (Some (tree.binary o.Lt (p 4 44) c.Int (tree.read (tree.scalar c.Int (Local 1))) (tree.constant c.Int (pos 2)))) (Some
                (tree.unused (tree.step o.Add (p 4 48) c.Int (tree.scalar c.Int (Local 1)) false))) (tree.block (p 0 0) (tree.declared_before (tree.scalar_object 2 (p 4 57) (Some (tree.constant c.Int (pos 3))))
                (tree.statement_before (tree.effect (p 4 62) (tree.unused (tree.step o.Add (p 4 63) c.Int (tree.scalar c.Int (Local 2)) false))) tree.no_items)))) (tree.statement_before (tree.return (p 4 69)
                (Some (tree.read (tree.scalar c.Int (Local 0))))) tree.no_items)));
          }));
        } ∷ []);
  });
  paths = (record { function = 1; caller = None } ∷ record {
    function = 0;
    caller = (Some (record {
      path = 0;
      call
          = 0;
    }));
  } ∷ []);
}

run_hidden_1 : compared 1000 program_hidden ((pos 1) ∷ (pos 0) ∷ (pos 366339799646208) ∷ (pos 6) ∷ (pos 1324590681817088) ∷ (pos 173) ∷ (pos 0) ∷ (pos 46) ∷ (pos 1) ∷ (pos 1) ∷ (negsuc 0) ∷ (pos 0) ∷
    (pos 1) ∷ (pos 479723544117248) ∷ (pos 1) ∷ (pos 6) ∷ (pos 0) ∷ (negsuc 210) ∷ (pos 0) ∷ (negsuc 1) ∷ (pos 0) ∷ (pos 1) ∷ (pos 0) ∷ (pos 159278288601088) ∷ (negsuc 224957507305471) ∷ (pos
    118476272304128) ∷ (pos 1) ∷ (pos 2) ∷ (pos 5) ∷ (pos 92) ∷ (pos 78) ∷ (pos 1) ∷ (pos 2) ∷ (pos 217) ∷ (pos 595) ∷ (negsuc 81450486464511) ∷ (pos 1) ∷ (pos 471193540886528) ∷ (negsuc 0) ∷ (pos 1)
    ∷ []) ≡ left (Some (pos 1))
unfolding program_hidden type_of body_of name_of calls_of target ways performed passed items all_declared case_tests lowered lowered_items all_introduced body_draft part sizes_of parts_from preorder
run_hidden_1 = refl
