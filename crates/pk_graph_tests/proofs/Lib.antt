mod OneEdge
