mod CallLaws
